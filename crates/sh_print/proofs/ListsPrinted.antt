-- Printed lists between an opening and a closing word.
use Rattle.std.proofs.Common.{◌≡◌, ℕ, ◌+◌, Bool, false, List, [], ◌∷◌, ◌++◌, length, drop, codes, refl, sym, ap, subst, ◌∙◌, append_assoc}
use Rattle.sh_tree.specs.declared.tree.Script.{Script}
use Rattle.sh_tree.specs.declared.token.command.Lead.TheVariants as lead
use Rattle.sh_tree.specs.declared.token.command.Reserved.{Reserved}
use Rattle.sh_tree.specs.declared.token.command.Reserved.TheVariants as word
use Rattle.sh_tree.specs.declared.token.command.Stage.TheVariants.{First}
use Rattle.sh_tree.specs.standard.language.Commands.{lead_at, blanks, begins_pipeline, begins_command, begins_simple, begins_compound, is_redirection, is_newline_lead}
use Rattle.sh_tree.specs.standard.language.Reading as r
use Rattle.sh_tree.specs.standard.language.Reading.{ReadsList, ReadsDo}
use Rattle.sh_tree.specs.standard.language.States.{Document}
use Rattle.sh_print.specs.Bare as bare
use Rattle.sh_print.specs.Layout.{tabs, block, items_text}
use Rattle.sh_print.specs.Trees.{script_of}
use Rattle.sh_print.proofs.PlaceLemmas.{front, front_none, front_tabs, fronted, lead_there, off}
use Rattle.sh_print.proofs.OwnTokens.{Gap, line, reserved_text, reserved_leads}
use Rattle.sh_print.proofs.DocumentsPrinted.{place, so_far, Fits, fits_parts}
use Rattle.sh_print.proofs.JoinsPrinted.{IsStop}

-- Reserved words

pub reserved_front : (w : Reserved) (rest : List ℕ) → front (reserved_text w ++ rest) ≡ reserved_text w ++ rest
unfolding reserved_text
reserved_front word.Bang rest = front_none 33 rest refl refl refl
reserved_front word.LeftBrace rest = front_none 123 rest refl refl refl
reserved_front word.RightBrace rest = front_none 125 rest refl refl refl
reserved_front word.Case rest = front_none 99 (codes "ase" ++ rest) refl refl refl
reserved_front word.Do rest = front_none 100 (codes "o" ++ rest) refl refl refl
reserved_front word.Done rest = front_none 100 (codes "one" ++ rest) refl refl refl
reserved_front word.Elif rest = front_none 101 (codes "lif" ++ rest) refl refl refl
reserved_front word.Else rest = front_none 101 (codes "lse" ++ rest) refl refl refl
reserved_front word.Esac rest = front_none 101 (codes "sac" ++ rest) refl refl refl
reserved_front word.Fi rest = front_none 102 (codes "i" ++ rest) refl refl refl
reserved_front word.For rest = front_none 102 (codes "or" ++ rest) refl refl refl
reserved_front word.If rest = front_none 105 (codes "f" ++ rest) refl refl refl
reserved_front word.In rest = front_none 105 (codes "n" ++ rest) refl refl refl
reserved_front word.Then rest = front_none 116 (codes "hen" ++ rest) refl refl refl
reserved_front word.Until rest = front_none 117 (codes "ntil" ++ rest) refl refl refl
reserved_front word.While rest = front_none 119 (codes "hile" ++ rest) refl refl refl

-- a reserved word on a line of its own
pub line_front : (d : ℕ) (w : Reserved) (rest : List ℕ) → front (tabs d ++ (reserved_text w ++ rest)) ≡ reserved_text w ++ rest
line_front d w rest = front_tabs d (reserved_text w ++ rest) ∙ reserved_front w rest

-- a closing word ends a list
pub word_stops : (d : ℕ) (w : Reserved) (rest : List ℕ) → Gap rest → begins_pipeline (lead.Reserved w) ≡ false → IsStop (tabs d ++ (reserved_text w ++ rest))
word_stops d w rest gap h =
    let here = ap (λ t. lead_at t First 0) (line_front d w rest) ∙ reserved_leads w rest gap in
    record { none = ap begins_pipeline here ∙ h; straight = ap is_newline_lead here }

-- The text of a block

pub block_text : (d : ℕ) (opening inside rest : List ℕ) → block d opening inside ++ rest ≡ opening ++ 10 ∷ (inside ++ (tabs d ++ rest))
block_text d opening inside rest = append_assoc opening (10 ∷ (inside ++ tabs d)) rest ∙ ap (λ t. opening ++ 10 ∷ t) (append_assoc inside (tabs d) rest)

-- Documents of two pieces, one after the other

pub kept_both : {D : Type 0} (x y z m n : List D) → y ≡ x ++ m → z ≡ y ++ n → z ≡ x ++ (m ++ n)
kept_both x y z m n h k = k ∙ ap (λ t. t ++ n) h ∙ append_assoc x m n

pub fits_both : (b : List ℕ) {body : ℕ → Document} (x y m n : List bare.Document) → y ≡ x ++ m → Fits b body (length x) (m ++ n) → Fits b body (length x) m × Fits b body (length y) n
fits_both b {body} x y m n h f =
    let parts = fits_parts b x m n f in
    (parts.0, subst (λ t. Fits b body (length t) n) (sym h) parts.1)

module _ (b : List ℕ) where
  -- a newline and a list, from its newline to the token after it
  pub record PrintedList (limit m i n k : ℕ) (closed : Bool) (ds : List Document) (items : bare.Items) (rest : List ℕ) : Type 0 where
    pub at : ℕ
    pub count : ℕ
    pub ended : Bool
    pub bodies : List Document
    pub met : List bare.Document
    pub kept : so_far b bodies [] ≡ so_far b ds [] ++ met
    pub behind : drop at b ≡ front rest
    pub total : count ≡ n + m
    pub reads : (body : ℕ → Document) → Fits b body (length (so_far b ds [])) met
        → (t : Script) × ReadsList limit b body (place i n k closed [] ds) (place at count k ended [] bodies) t × (script_of b t ≡ items)

  -- so deep, with so many tabs before its items
  pub record PrintsList (limit k d m : ℕ) (items : bare.Items) : Type 0 where
    pub print : (i n : ℕ) (closed : Bool) (ds : List Document) (rest : List ℕ) → drop i b ≡ 10 ∷ (items_text d items ++ rest) → IsStop rest → PrintedList limit m i n k closed ds items rest

  -- a list after an opening word, from the end of that word
  pub block_print : {limit k d m : ℕ} {items : bare.Items} → PrintsList limit k d m items → (w : List ℕ) (i n : ℕ) (closed : Bool) (ds : List Document) (rest : List ℕ)
      → drop i b ≡ w ++ 10 ∷ (items_text d items ++ rest) → IsStop rest → PrintedList limit m (blanks false b (i + length w)) n k closed ds items rest
  block_print {d = d} {items = items} p w i n closed ds rest e stop =
      let text = items_text d items ++ rest in
      p.print (blanks false b (i + length w)) n closed ds rest (fronted b (i + length w) (10 ∷ text) (off b i w (10 ∷ text) e) ∙ front_none 10 text refl refl refl) stop

  -- `do`, a list and `done`
  pub record PrintedDo (limit m i n k : ℕ) (closed : Bool) (ds : List Document) (items : bare.Items) (rest : List ℕ) : Type 0 where
    pub at : ℕ
    pub count : ℕ
    pub ended : Bool
    pub bodies : List Document
    pub met : List bare.Document
    pub kept : so_far b bodies [] ≡ so_far b ds [] ++ met
    pub behind : drop at b ≡ front rest
    pub total : count ≡ n + m
    pub reads : (body : ℕ → Document) → Fits b body (length (so_far b ds [])) met
        → (t : Script) × ReadsDo limit b body (place i n k closed [] ds) (place at count k ended [] bodies) t × (script_of b t ≡ items)

  pub do_print : {limit k m : ℕ} {items : bare.Items} (d : ℕ) → PrintsList limit k (d + 1) m items → (i n : ℕ) (closed : Bool) (ds : List Document) (rest : List ℕ)
      → drop i b ≡ block d (codes "do") (items_text (d + 1) items) ++ (codes "done" ++ rest) → Gap rest → PrintedDo limit m i n k closed ds items rest
  unfolding reserved_text begins_pipeline begins_command begins_simple begins_compound is_redirection
  do_print {items = items} d p i n closed ds rest e gap =
      let tail = tabs d ++ (codes "done" ++ rest) in
      let e1 : drop i b ≡ codes "do" ++ 10 ∷ (items_text (d + 1) items ++ tail) = e ∙ block_text d (codes "do") (items_text (d + 1) items) (codes "done" ++ rest) in
      let one = block_print p (codes "do") i n closed ds tail e1 (word_stops d word.Done rest gap refl) in
      let there : drop one.at b ≡ codes "done" ++ rest = one.behind ∙ line_front d word.Done rest in
      record {
        at = blanks false b (one.at + 4);
        count = one.count;
        ended = one.ended;
        bodies = one.bodies;
        met = one.met;
        kept = one.kept;
        behind = fronted b (one.at + 4) rest (off b one.at (codes "done") rest there);
        total = one.total;
        reads = λ body f. let t = one.reads body f in (
          t.0,
          r.do_group (lead_there b First i _ e1 ∙ reserved_leads word.Do (10 ∷ (items_text (d + 1) items ++ tail)) line) t.1 (lead_there b First one.at _ there ∙ reserved_leads word.Done rest gap),
          t.2,
        );
      }
