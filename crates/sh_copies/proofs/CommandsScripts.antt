-- The commands of a substitution are read wherever their bytes are, up to what closes them.
-- POSIX.1-2024, XCU 2.6.3 (command substitution).
use Rattle.std.proofs.Common.{◌≡◌, ℕ, ◌+◌, ◌-◌, ◌<◌, ◌≤◌, ◌==◌, true, List, [], ◌∷◌, ◌++◌, drop, take, ◌⊎◌, inl, inr, refl, sym, ap, ◌∙◌, subst, arith, eqb-true, append_assoc, ⊎_elim}
use Rattle.std.proofs.lemmas.Bool.{true≢false}
use Rattle.std.proofs.lemmas.List.{drop-drop, drop-append-le, take-append-drop, length-take-le}
use Rattle.sh_tree.specs.declared.tree.Script.{Script}
use Rattle.sh_tree.specs.standard.language.Arithmetic.{is_closed}
use Rattle.sh_tree.specs.standard.language.Bytes.{is_first}
use Rattle.sh_tree.specs.standard.language.Commands.{blanks}
use Rattle.sh_tree.specs.standard.language.Reading as r
use Rattle.sh_tree.specs.standard.language.Reading.{ReadsScript}
use Rattle.sh_tree.specs.standard.language.States.{Spot, nth, to, within, waits}
use Rattle.sh_reads.proofs.MoveLemmas.{blanks_move}
use Rattle.sh_copies.proofs.Commands.{sequence_moves}
use Rattle.sh_copies.proofs.CommandsMove.{before}
use Rattle.sh_copies.proofs.CommandsReady.{closed_no_sign, sequence_sign}
use Rattle.sh_copies.proofs.CommandsTokens.{Closing, Ahead, Ready, MovedState, blanks_same}
use Rattle.sh_copies.proofs.Copies.{Copied, Closed, Place, Moved, Found, limit_of, WordsMove, PartsMove, ScriptsMove}
use Rattle.sh_copies.proofs.Forward.{sequence_forward, script_forward}
use Rattle.sh_copies.proofs.Places.{moved_to}

module _ {limit n : ℕ} (words : WordsMove limit n) (parts : PartsMove limit n) where
  script_moves : {b b' : List ℕ} (c : Copied b b') (ahead : Ahead c) {s s' u : Spot} {t : Script} → Moved c s s' → ReadsScript limit b (to (blanks s.joins b s.at) s) u t → u.at < s.at + n
      → u.at ≤ limit_of c → Ready c ahead u.at → Found c u (λ t'. Unit {0}) (λ u' t'. ReadsScript limit b' (to (blanks s'.joins b' s'.at) s') u' t')
  script_moves {b} {b'} c ahead {s} {s'} m (r.script {u = u} t h) size inside ready =
      let first = blanks_move s.joins b s.at in
      let second = sequence_forward t in
      let begins : Ready c ahead (blanks s.joins b s.at) = before words parts c ahead _ _ (sequence_sign t) ready in
      let place : Place c (blanks s.joins b s.at) (blanks s'.joins b' s'.at) =
      subst (λ j. Place c (blanks s.joins b s.at) (blanks j b' s'.at)) (sym m.joins) (blanks_same c ahead s.joins m.place (omega arith) begins) in
      let start : MovedState c ahead (within (to (blanks s.joins b s.at) s)) (within (to (blanks s'.joins b' s'.at) s')) = record { spot = moved_to c m place; closed = refl; pending = refl; count = refl } in
      let found = sequence_moves words parts c ahead start t (omega arith) inside ready in
      let z = found.reads (nth found.to.bodies) in
      record { to = found.to.spot; tree = z.0; moved = found.moved.spot; keeps = tt; reads = r.script z.1 (ap waits found.moved.pending ∙ h) }

-- the copy up to the closing parenthesis
closing_rest : (d rest rest' : List ℕ) → (rest' ≡ rest) ⊎ Closed rest rest' → is_first (λ c. c == 41) (d ++ rest) ≡ true → Closing (d ++ rest) (d ++ rest')
unfolding is_first
closing_rest [] [] rest' edge h = absurd (true≢false (sym h))
closing_rest [] (x ∷ rest) rest' (inl same) h =
    let is : x ≡ 41 = eqb-true x 41 h in
    record { r = rest; r' = rest; there = ap (λ y. y ∷ rest) is; here = same ∙ ap (λ y. y ∷ rest) is }
closing_rest [] (x ∷ rest) rest' (inr k) h =
    let is : k.c ≡ 41 = eqb-true k.c 41 (ap (is_first (λ c. c == 41)) (sym k.there) ∙ h) in
    record { r = k.r; r' = k.r'; there = k.there ∙ ap (λ y. y ∷ k.r) is; here = k.here ∙ ap (λ y. y ∷ k.r') is }
closing_rest (x ∷ d) rest rest' edge h =
    let is : x ≡ 41 = eqb-true x 41 h in
    record { r = d ++ rest; r' = d ++ rest'; there = ap (λ y. y ∷ (d ++ rest)) is; here = ap (λ y. y ∷ (d ++ rest')) is }

abbrev cut_copy : {b b' : List ℕ} (c : Copied b b') (k : ℕ) → Closing (drop k c.w ++ c.rest) (drop k c.w ++ c.rest') → Copied b b'
cut_copy c k closing = record {
  from = c.from;
  into = c.into;
  w = take k c.w;
  rest = drop k c.w ++ c.rest;
  rest' = drop k c.w ++ c.rest';
  there = c.there ∙ ap (λ z. z ++ c.rest) (sym (take-append-drop k c.w)) ∙ append_assoc (take k c.w) (drop k c.w) c.rest;
  here = c.here ∙ ap (λ z. z ++ c.rest') (sym (take-append-drop k c.w)) ∙ append_assoc (take k c.w) (drop k c.w) c.rest';
  edge = inr (record { c = 41; r = closing.r; r' = closing.r'; closes = refl; there = closing.there; here = closing.here });
  began = c.began;
  began' = c.began';
}

pub scripts_move : {limit n : ℕ} → WordsMove limit n → PartsMove limit n → ScriptsMove limit n
unfolding is_closed
scripts_move {limit} {n} words parts = record {
  script = λ {b} {b'} c {s} {s'} {u} {t} m reads size inside end. ⊎_elim
      (λ same. script_moves words parts c (inl same) m reads size inside (inl same))
      (λ closed.
      let first = blanks_move s.joins b s.at in
      let second = script_forward reads in
      let at = m.place.at in
      let k = u.at - c.from in
      let there : drop u.at b ≡ drop k c.w ++ c.rest =
      ap (λ z. drop z b) (let z : u.at ≡ c.from + k = omega arith in z) ∙ sym (drop-drop k c.from b) ∙ ap (drop k) c.there ∙ drop-append-le k c.w c.rest (omega arith) in
      let closing = closing_rest (drop k c.w) c.rest c.rest' c.edge (ap (is_first (λ z. z == 41)) (sym there) ∙ closed) in
      let cut = cut_copy c k closing in
      let long = length-take-le k c.w (omega arith) in
      let moved : Moved cut s s' = record { place = record { by = m.place.by; at = m.place.at; at' = m.place.at' }; depth = m.depth; joins = m.joins; tabs = m.tabs; quiet = m.quiet; counts = m.counts } in
      let found = script_moves words parts cut (inr closing) moved reads size (omega arith) (inr (closed_no_sign b u.at closed)) in
      record {
        to = found.to;
        tree = found.tree;
        moved = record {
          place = record { by = found.moved.place.by; at = found.moved.place.at; at' = found.moved.place.at' };
          depth = found.moved.depth;
          joins = found.moved.joins;
          tabs = found.moved.tabs;
          quiet = found.moved.quiet;
          counts = found.moved.counts;
        };
        keeps = tt;
        reads = found.reads;
      })
      end;
}
