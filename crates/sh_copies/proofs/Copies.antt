-- What is copied: bytes of one text that are in another too, and what is read of them there.
-- POSIX.1-2024, XCU 2.2 (quoting), 2.6 (word expansions).
use Rattle.std.proofs.Common.{◌≡◌, ℕ, ◌+◌, ◌<◌, ◌≤◌, ◌==◌, true, false, List, ◌∷◌, ◌++◌, length, map, drop, ◌⊎◌}
use Rattle.std.specs.List.{list_any}
use Rattle.sh_tree.specs.declared.tree.Expr.{Expr}
use Rattle.sh_tree.specs.declared.tree.Part.{Part}
use Rattle.sh_tree.specs.declared.tree.Script.{Script}
use Rattle.sh_tree.specs.declared.tree.Word.{Word}
use Rattle.sh_tree.specs.declared.token.arithmetic.Figure.TheVariants as figure
use Rattle.sh_tree.specs.declared.token.word.Context.{Context}
use Rattle.sh_tree.specs.declared.token.word.Sign.{Sign}
use Rattle.sh_tree.specs.standard.Tree.{text_of}
use Rattle.sh_tree.specs.standard.Words.{part_text, parts_text}
use Rattle.sh_tree.specs.standard.language.Arithmetic.{is_closed}
use Rattle.sh_tree.specs.standard.language.HereDocuments.{is_dollar_quoted}
use Rattle.sh_tree.specs.standard.language.Parts.{is_quotation, singles_in, singles, expression_singles}
use Rattle.sh_tree.specs.standard.language.Reading.{figure_at, over, sign_at, after, is_expansion, ReadsParts, ReadsPart, ReadsWord, ReadsExpression, ReadsScript}
use Rattle.sh_tree.specs.standard.language.Commands.{blanks}
use Rattle.sh_tree.specs.standard.language.States.{Spot, to}
use Rattle.sh_tree.specs.standard.language.Words.{is_quoted, stop_length}
use Rattle.sh_copies.proofs.AlikeBytes.{is_closer}

-- Places

-- both texts go on with the same byte, which closes the context of the copy
pub record Closed (rest rest' : List ℕ) : Type 0 where
  pub c : ℕ
  pub r : List ℕ
  pub r' : List ℕ
  pub closes : is_closer c ≡ true
  pub there : rest ≡ c ∷ r
  pub here : rest' ≡ c ∷ r'

-- Bytes of b that are in b' too. Both texts go on alike after them: to the end, or with a byte that
-- closes their context. At one spot of them so many commands have begun in b, and so many in b'.
pub record Copied (b b' : List ℕ) : Type 0 where
  pub from : ℕ
  pub into : ℕ
  pub w : List ℕ
  pub rest : List ℕ
  pub rest' : List ℕ
  pub there : drop from b ≡ w ++ rest
  pub here : drop into b' ≡ w ++ rest'
  pub edge : (rest' ≡ rest) ⊎ Closed rest rest'
  pub began : ℕ
  pub began' : ℕ

-- where the copied bytes end in b
abbrev pub limit_of : {b b' : List ℕ} → Copied b b' → ℕ
limit_of c = c.from + length c.w

-- the same place of the copy
pub record Place {b b' : List ℕ} (c : Copied b b') (i i' : ℕ) : Type 0 where
  pub by : ℕ
  pub at : i ≡ c.from + by
  pub at' : i' ≡ c.into + by

-- the numbers of commands that have begun at the same spot of the copy
abbrev pub Counts : {b b' : List ℕ} → Copied b b' → Spot → Spot → Type 0
Counts c s s' = s'.count + c.began ≡ s.count + c.began'

-- The same spot of the copy. There a newline token may come that might not before.
pub record Moved {b b' : List ℕ} (c : Copied b b') (s s' : Spot) : Type 0 where
  pub place : Place c s.at s'.at
  pub depth : s'.depth ≡ s.depth
  pub joins : s'.joins ≡ s.joins
  pub tabs : s'.tabs ≡ s.tabs
  pub quiet : s'.quiet ≡ true → s.quiet ≡ true
  pub counts : Counts c s s'

-- the same context, in which tilde-prefixes may begin from o' on
abbrev pub turned : ℕ → Context → Context
turned o' x = record x { origin = o' }

-- outside quotes both are the same place of the copy, or neither is in it
abbrev pub Turns : {b b' : List ℕ} → Copied b b' → Context → ℕ → Type 0
Turns c x o' = is_quoted x.site ≡ false → (n : ℕ) → (c.into + n == o') ≡ (c.from + n == x.origin)

-- What is kept

pub record KeptPart (b b' : List ℕ) (p p' : Part) : Type 0 where
  pub text : part_text b' p' ≡ part_text b p
  pub quotes : is_quotation p' ≡ is_quotation p
  pub dollar_quotes : is_dollar_quoted p' ≡ is_dollar_quoted p
  pub lines : map (text_of b') (singles_in p') ≡ map (text_of b) (singles_in p)

pub record Kept (b b' : List ℕ) (ps ps' : List Part) : Type 0 where
  pub text : parts_text b' ps' ≡ parts_text b ps
  pub quotes : list_any is_quotation ps' ≡ list_any is_quotation ps
  pub dollar_quotes : list_any is_dollar_quoted ps' ≡ list_any is_dollar_quoted ps
  pub lines : map (text_of b') (singles ps') ≡ map (text_of b) (singles ps)

abbrev pub KeptWord : List ℕ → List ℕ → Word → Word → Type 0
KeptWord b b' w w' = Kept b b' w.parts w'.parts

-- of an expression only the single quotes in its expansions
abbrev pub KeptExpression : List ℕ → List ℕ → Expr → Expr → Type 0
KeptExpression b b' e e' = map (text_of b') (expression_singles e') ≡ map (text_of b) (expression_singles e)

-- Readings

-- what is read at the copy, up to the same spot, and what its tree keeps
pub record Found {b b' : List ℕ} (c : Copied b b') (u : Spot) {A : Type 0} (Keeps : A → Type 0) (Reading : Spot → A → Type 0) : Type 0 where
  pub to : Spot
  pub tree : A
  pub moved : Moved c u to
  pub keeps : Keeps tree
  pub reads : Reading to tree

-- Each says of readings of fewer than n bytes that they are found at each copy.

pub record ExpressionsMove (limit n : ℕ) : Type 0 where
  pub expression : {b b' : List ℕ} (c : Copied b b') {x : Context} {o' : ℕ} {s s' u : Spot} {e : Expr}
      → Moved c s s' → Turns c x o' → ReadsExpression limit b x s u e → u.at < s.at + n
      → figure_at b u ≡ figure.Close → (over b u).at ≤ limit_of c
      → Found c u (KeptExpression b b' e) (λ u' e'. ReadsExpression limit b' (turned o' x) s' u' e')

-- The commands begin after blanks. What follows them is the same, or closes them.
pub record ScriptsMove (limit n : ℕ) : Type 0 where
  pub script : {b b' : List ℕ} (c : Copied b b') {s s' u : Spot} {t : Script}
      → Moved c s s' → ReadsScript limit b (to (blanks s.joins b s.at) s) u t → u.at < s.at + n
      → u.at ≤ limit_of c → (c.rest' ≡ c.rest) ⊎ (is_closed b u.at ≡ true)
      → Found c u (λ t'. Unit {0}) (λ u' t'. ReadsScript limit b' (to (blanks s'.joins b' s'.at) s') u' t')

pub record PartsMove (limit n : ℕ) : Type 0 where
  pub parts : {b b' : List ℕ} (c : Copied b b') {x : Context} {o' prior : ℕ} {s s' u : Spot} {ps : List Part}
      → Moved c s s' → Turns c x o' → ReadsParts limit b x prior s u ps → u.at < s.at + n
      → u.at ≤ limit_of c + stop_length x.site
      → Found c u (Kept b b' ps) (λ u' ps'. ReadsParts limit b' (turned o' x) prior s' u' ps')

-- an expansion that is an operand of arithmetic
pub record ExpansionsMove (limit n : ℕ) : Type 0 where
  pub expansion : {b b' : List ℕ} (c : Copied b b') {x : Context} {o' : ℕ} {g : Sign} {s s' u : Spot} {p : Part}
      → Moved c s s' → Turns c x o' → sign_at b x 0 s ≡ g → is_expansion g ≡ true → ReadsPart limit b x g s (after b x 0 s) u p → u.at < s.at + n
      → u.at ≤ limit_of c
      → Found c u (KeptPart b b' p) (λ u' p'. (g' : Sign) × (sign_at b' (turned o' x) 0 s' ≡ g') × (is_expansion g' ≡ true)
      × ReadsPart limit b' (turned o' x) g' s' (after b' (turned o' x) 0 s') u' p')

pub record WordsMove (limit n : ℕ) : Type 0 where
  pub word : {b b' : List ℕ} (c : Copied b b') {x : Context} {o' : ℕ} {s s' u : Spot} {w : Word}
      → Moved c s s' → Turns c x o' → ReadsWord limit b x s u w → u.at < s.at + n
      → u.at ≤ limit_of c
      → Found c u (KeptWord b b' w) (λ u' w'. ReadsWord limit b' (turned o' x) s' u' w')
