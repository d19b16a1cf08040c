-- The static texts that a call table keeps of a command are those of its words, wherever it is
-- entered.
use Rattle.std.proofs.Common.{◌≡◌, ℕ, Bool, true, false, ◌&&◌, List, [], ◌∷◌, map, Some, None, refl, sym, ap, ap₂, ◌∙◌, true≢false}
use Rattle.std.specs.List.{list_all}
use Rattle.std.specs.Str.{bytes_eq}
use Rattle.std.proofs.lemmas.Bool.{and_parts, and_from}
use Rattle.std.proofs.lemmas.Slice.Eq.{bytes_eq-Decides}
use Rattle.sh_tree.specs.standard.program.Syntax as p
use Rattle.sh_tree.specs.standard.program.Syntax.{Text}
use Rattle.sh_tree.specs.standard.program.Words.{static_of}
use Rattle.sh_runs.specs.Calls.{Row, row_of, texts_with, table_of}
use Rattle.sh_runs.specs.Numbering.{is_numbered}
use Rattle.sh_runs.specs.Profile.{Static}
use Rattle.sh_runs.specs.Sites.{site_of, form_of, statics, sites_of}
use Rattle.sh_runs.specs.Surroundings.{Surroundings, Located, outside, items_located}
use Rattle.sh_table.proofs.NumberLemmas.{Tells, numbered_tells}
use Rattle.sh_domain.specs.Entries.{Entered, script_entered}
use Rattle.sh_domain.specs.Table.{operands}
use Rattle.sh_gains.proofs.LocatedLemmas.{script_listed}
use Rattle.sh_tree.specs.declared.tree.Script.{Script}
use Rattle.sh_tree.specs.standard.program.Trees.{script_of}

abbrev same_static : Static → Static → Bool
same_static None None = true
same_static (Some t) (Some u) = bytes_eq t u
same_static _ _ = false

abbrev same_statics : List Static → List Static → Bool
same_statics [] [] = true
same_statics (x ∷ xs) (y ∷ ys) = same_static x y && same_statics xs ys
same_statics _ _ = false

static_itself : (x : Static) → same_static x x ≡ true
static_itself None = refl
static_itself (Some t) = (bytes_eq-Decides t t).1 refl

statics_itself : (xs : List Static) → same_statics xs xs ≡ true
statics_itself [] = refl
statics_itself (x ∷ xs) = and_from (same_static x x) (same_statics xs xs) (static_itself x) (statics_itself xs)

static_equal : (x y : Static) → same_static x y ≡ true → x ≡ y
static_equal None None h = refl
static_equal (Some t) (Some u) h = ap (λ (v : Text). Some v) ((bytes_eq-Decides t u).0 h)
static_equal None (Some u) h = absurd (true≢false (sym h))
static_equal (Some t) None h = absurd (true≢false (sym h))

statics_equal : (xs ys : List Static) → same_statics xs ys ≡ true → xs ≡ ys
statics_equal [] [] h = refl
statics_equal (x ∷ xs) (y ∷ ys) h =
    let both = and_parts (same_static x y) (same_statics xs ys) h in
    ap₂ (λ a b. a ∷ b) (static_equal x y both.0) (statics_equal xs ys both.1)
statics_equal [] (y ∷ ys) h = absurd (true≢false (sym h))
statics_equal (x ∷ xs) [] h = absurd (true≢false (sym h))

-- the texts under the command's number are its own
unfoldable pub has_texts : List Row → p.Command → Bool
has_texts rows (p.command n at kind rs) = same_statics (texts_with n rows) (statics (form_of kind))

one_has : (rows : List Row) (x : Surroundings) (c : p.Command)
    → texts_with (site_of (record { command = c; surroundings = x })).number rows ≡ statics (site_of (record { command = c; surroundings = x })).form → has_texts rows c ≡ true
unfolding has_texts site_of
one_has rows x (p.command n at kind rs) h = ap (λ ts. same_statics ts (statics (form_of kind))) h ∙ statics_itself (statics (form_of kind))

all_have : (rows : List Row) (ls : List Located) → Tells (λ n. texts_with n rows) (map site_of ls) → list_all (λ (l : Located). has_texts rows l.command) ls ≡ true
all_have rows [] h = refl
all_have rows (l ∷ ls) h = and_from (has_texts rows l.command) _ (one_has rows l.surroundings l.command h.0) (all_have rows ls h.1)

-- each command that is entered
pub entered_have : (t : p.Items) → is_numbered t ≡ true → list_all (λ (e : Entered). has_texts (map row_of (sites_of t)) e.command) (script_entered t) ≡ true
entered_have t h =
    sym (script_listed (has_texts (map row_of (sites_of t))) t) ∙ all_have (map row_of (sites_of t)) (items_located outside t) (numbered_tells t h)

-- of a script
pub table_texts : (b : List ℕ) (t : Script) → is_numbered (script_of b t) ≡ true
    → list_all (λ (e : Entered). has_texts (table_of b t).rows e.command) (script_entered (script_of b t)) ≡ true
unfolding table_of
table_texts b t h = entered_have (script_of b t) h

-- a simple command's texts are those of its words
pub own_texts : (rows : List Row) (n at : ℕ) (es : p.Elements) (rs : p.Redirects) → has_texts rows (p.command n at (p.Simple es) rs) ≡ true
    → texts_with n rows ≡ map static_of (operands es)
unfolding has_texts form_of statics
own_texts rows n at es rs h = statics_equal (texts_with n rows) (map static_of (operands es)) h
