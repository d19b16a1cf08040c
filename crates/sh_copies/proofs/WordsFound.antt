-- Parts, expansions and whole words are found in a copy if the commands and the arithmetic in them
-- are.
-- POSIX.1-2024, XCU 2.2 (quoting), 2.6 (word expansions), 2.7 (redirection).
use Rattle.std.proofs.Common.{◌≡◌, ℕ, suc, ◌+◌, ◌-◌, ◌≤◌, ◌<◌, Bool, true, not, ◌&&◌, ◌||◌, List, [], ◌∷◌, map, nat_le, refl, sym, ap, ◌∙◌, ◌==◌, arith}
use Rattle.std.specs.List.{list_all}
use Rattle.std.proofs.lemmas.Bool.{true≢false, le-leb, leb-true}
use Rattle.sh_tree.specs.declared.tree.Span.{Span}
use Rattle.sh_tree.specs.declared.tree.Part.{Part}
use Rattle.sh_tree.specs.declared.tree.Word.{Word}
use Rattle.sh_tree.specs.declared.token.word.Context.{Context}
use Rattle.sh_tree.specs.declared.token.word.Sign.{Sign}
use Rattle.sh_tree.specs.declared.token.word.Sign.TheVariants as sign
use Rattle.sh_tree.specs.standard.Tree.{text_of}
use Rattle.sh_tree.specs.standard.language.Commands.{is_location}
use Rattle.sh_tree.specs.standard.language.HereDocuments.{is_split_text}
use Rattle.sh_tree.specs.standard.language.Parts.{singles, keeps_lines}
use Rattle.sh_tree.specs.standard.language.Reading as r
use Rattle.sh_tree.specs.standard.language.Reading.{sign_at, is_expansion, ReadsWord}
use Rattle.sh_tree.specs.standard.language.States.{Spot}
use Rattle.sh_tree.specs.standard.language.Trees as tree
use Rattle.sh_reads.proofs.TakeLemmas.{part_begins, token_moves}
use Rattle.sh_copies.proofs.AlikeBytes.{by_bool}
use Rattle.sh_copies.proofs.AlikeTokens.{is_sound}
use Rattle.sh_copies.proofs.Copies.{Copied, limit_of, Place, Moved, Turns, turned, Kept, KeptWord, Found, ExpressionsMove, ScriptsMove, PartsMove, ExpansionsMove, WordsMove}
use Rattle.sh_copies.proofs.Forward.{parts_forward, part_forward}
use Rattle.sh_copies.proofs.Shift.{placeless}
use Rattle.sh_copies.proofs.WordsMove.{parts_move, part_move}
use Rattle.sh_copies.proofs.WordsTokens.{same_token, part_sound, near_first, near_behind}

-- the lines of single quotes are kept with their texts
pub list_of_texts : (b : List ℕ) (ss : List Span) → list_all (λ s. not (is_split_text (text_of b s))) ss ≡ list_all (λ t. not (is_split_text t)) (map (text_of b) ss)
list_of_texts b [] = refl
list_of_texts b (s ∷ ss) = ap (λ t. not (is_split_text (text_of b s)) && t) (list_of_texts b ss)

pub same_lines : {b b' : List ℕ} (joins : Bool) {ps ps' : List Part} → Kept b b' ps ps' → keeps_lines b' joins ps' ≡ keeps_lines b joins ps
unfolding keeps_lines
same_lines {b} {b'} joins {ps} {ps'} k =
    ap (λ t. not joins || t) (list_of_texts b' (singles ps') ∙ ap (list_all (λ t. not (is_split_text t))) k.lines ∙ sym (list_of_texts b (singles ps)))

-- an IO location is one in the copy
pub same_location : {b b' : List ℕ} (c : Copied b b') {i i' j j' : ℕ} → Place c i i' → Place c j j' → i ≤ j → j ≤ limit_of c → is_location b' i' j' ≡ is_location b i j
unfolding is_location
same_location {b} {b'} c {i} {i'} {j} {j'} p q f h = by_bool (nat_le (i + 3) j)
    (λ long.
    let l = leb-true (i + 3) j long in
    let before : Place c (j - 1) (j' - 1) = record { by = q.by - 1; at = (let a = q.at in let a' = p.at in omega arith); at' = (let a = q.at' in let a' = p.at in let d = q.at in omega arith) } in
    rw (
      le-leb (i' + 3) j' (let a = p.at in let a' = p.at' in let d = q.at in let d' = q.at' in omega arith),
      long,
      near_first c (λ c. c == 123) p (omega arith),
      near_first c (λ c. c == 125) before (omega arith),
      near_behind c (λ c. c == 60 || c == 62) q h,
    ) refl)
    (λ other. by_bool (nat_le (i' + 3) j')
    (λ long.
    let l = leb-true (i' + 3) j' long in
    let same : nat_le (i + 3) j ≡ true = le-leb (i + 3) j (let a = p.at in let a' = p.at' in let d = q.at in let d' = q.at' in omega arith) in
    absurd (true≢false (sym same ∙ other)))
    (λ short. rw (short, other) refl))

module _ {limit n : ℕ} (expressions : ExpressionsMove limit n) (scripts : ScriptsMove limit n) where
  pub parts_found : PartsMove limit (suc n)
  parts_found = record { parts = λ {b} {b'} c {x} {o'} {prior} {s} {s'} {u} {ps} m turns i size within. parts_move expressions scripts c m turns i size within }

  expansion_placeless : (g : Sign) → is_expansion (placeless g) ≡ is_expansion g
  expansion_placeless (sign.Value p) = refl
  expansion_placeless (sign.Length p) = refl
  expansion_placeless (sign.Use p a c) = refl
  expansion_placeless (sign.Remove p q) = refl
  expansion_placeless g = refl

  pub expansions_found : ExpansionsMove limit (suc n)
  expansions_found = record {
    expansion = λ {b} {b'} c {x} {o'} {g} {s} {s'} {u} {p} m turns h is i size within.
        let k = token_moves b x 0 s.at in
        let f = part_forward i in
        let t = same_token c {prior = 0} m turns (omega arith) (ap is_sound h ∙ part_sound g (part_begins i)) (λ e. omega arith) in
        let g' = sign_at b' (turned o' x) 0 s' in
        let same : placeless g' ≡ placeless g = t.sign ∙ ap placeless h in
        let found = part_move expressions scripts c m turns t.end k g' same i size (omega arith) in
        record {
          to = found.to;
          tree = found.tree;
          moved = found.moved;
          keeps = found.keeps;
          reads = (g', refl, sym (expansion_placeless g') ∙ ap is_expansion same ∙ expansion_placeless g ∙ is, found.reads);
        };
  }

  pub words_found : WordsMove limit (suc n)
  words_found = record { word = λ {b} {b'} c {x} {o'} {s} {s'} {u} {w} m turns i size within. word_move c m turns i size within }
    where
      word_move : {b b' : List ℕ} (c : Copied b b') {x : Context} {o' : ℕ} {s s' u : Spot} {w : Word} → Moved c s s' → Turns c x o' → ReadsWord limit b x s u w → u.at < s.at + suc n → u.at ≤ limit_of c
          → Found c u (KeptWord b b' w) (λ u' w'. ReadsWord limit b' (turned o' x) s' u' w')
      word_move {b} {b'} c {x} {o'} {s} {s'} m turns (r.whole_word i h k) size within =
          let found = parts_move expressions scripts c m turns i size (omega arith) in
          let f = parts_forward i in
          record {
            to = found.to;
            tree = tree.word s'.at found.to.at found.tree;
            moved = found.moved;
            keeps = found.keeps;
            reads = r.whole_word found.reads (ap (λ t. not x.colons && t) (same_location c m.place found.moved.place f within) ∙ h) (ap (λ j. keeps_lines b' j found.tree) m.joins ∙ same_lines s.joins found.keeps ∙ k);
          }
