-- What is reported of a compound command of a tree, by the pieces one level below it.
use Rattle.std.proofs.Common.{◌≡◌, ℕ, Bool, true, false, Option, Some, None, List, [], ◌∷◌, fold, refl, sym, ap, ap₂, ◌∙◌, ◌≤◌, ◌<◌, ◌-◌, length, get_or, take, drop, arith, ◌||◌, codes}
use Rattle.std.proofs.lemmas.List.{take_all}
use Rattle.std.specs.List.{list_any}
use Rattle.sh_tree.specs.declared.tree.Branch.{Branch}
use Rattle.sh_tree.specs.declared.tree.Clause.{Clause, out-Clause}
use Rattle.sh_tree.specs.declared.tree.ClauseEnd.TheVariants as clause
use Rattle.sh_tree.specs.declared.tree.Command.{Command, out-Command}
use Rattle.sh_tree.specs.declared.tree.Element.{Element}
use Rattle.sh_tree.specs.declared.tree.Kind.TheVariants as kind
use Rattle.sh_tree.specs.declared.tree.LoopKind.{LoopKind}
use Rattle.sh_tree.specs.declared.tree.Part.{Part, Plain}
use Rattle.sh_tree.specs.declared.tree.Script.{Script}
use Rattle.sh_tree.specs.declared.tree.Span.{Span}
use Rattle.sh_tree.specs.declared.tree.Word.{Word}
use Rattle.sh_tree.specs.standard.Tree.{text_of}
use Rattle.sh_tree.specs.Lists.{parts_from, words_from, branches_from, otherwise_from, for_words_from, clauses_from}
use Rattle.sh_tree.specs.standard.program.Syntax.{Text}
use Rattle.sh_tree.specs.standard.program.Trees as trees
use Rattle.sh_tree.specs.standard.program.Trees.{part_of}
use Rattle.sh_tree.specs.standard.program.Words.{is_plainly, words_in}
use Rattle.sh_tree.proofs.ProgramRules as rules
use Rattle.sh_domain.specs.declared.rule.FlowRule.TheVariants.{F10, F11}
use Rattle.sh_domain.specs.Facts.{Facts, NotReached}
use Rattle.sh_domain.specs.Gains.{word_gains, words_gains}
use Rattle.sh_domain.specs.Rules.{is_last, matches_always}
use Rattle.sh_domain.specs.Knowledge.{among, knowledge_facts}
use Rattle.sh_domain.specs.declared.knowledge.Knowledge.{Knowledge}
use Rattle.sh_domain.specs.Views.{Certificate, Before, Define, step}
use Rattle.sh_rules.specs.declared.claims.Claims.{Claims}
use Rattle.sh_rules.specs.Asking.{Asking}
use Rattle.sh_rules.specs.Settings.{Setting, certificate, known_at, gained}
use Rattle.sh_rules.specs.Behind.{both}
use Rattle.sh_rules.specs.Walked.{Trail, trail}
use Rattle.sh_rules.specs.Walks.{script_behind, facts_in, setting}
use Rattle.sh_rules.specs.Bounds.{fault, behind_list, leaves_told, clauses_told, compound_told, body_told, unmatched_told}
use Rattle.sh_rules.specs.Bounds as b
use Rattle.sh_rules.specs.Tells.{script_left, branch_told, otherwise_told, ends_case, is_star, has_star, clauses_left, clause_left, word_gained, for_words_gained, loop_left, for_left, case_left, returns_told, define_left, kind_told}
use Rattle.sh_rules.proofs.GainLemmas.{none_gained, both_gained}

-- `if`

pub branches_folded : {K : Type 0} (a : Asking K) (x : Setting) (n : ℕ) (t : Trail K) (bs : List Branch) → b.branches_told a x n t (branches_from x.script bs) ≡ fold (branch_told a x n) t bs
unfolding b.branches_told branches_from branch_told script_behind
branches_folded a x n t [] = refl
branches_folded a x n t (c ∷ cs) = branches_folded a x n (branch_told a x n t c) cs

otherwise_same : {K : Type 0} (a : Asking K) (x : Setting) (n : ℕ) (t : Trail K) (o : Option Script) → b.otherwise_told a x n t (otherwise_from x.script o) ≡ otherwise_told a x n t o
unfolding b.otherwise_told otherwise_from otherwise_told script_behind
otherwise_same a x n t None = refl
otherwise_same a x n t (Some list) = refl

-- `case`

pub clauses_left-empty : {K : Type 0} (a : Asking K) (x : Setting) (n : ℕ) (k : Facts) (t : Trail K) → clauses_left a x n k t [] ≡ t
unfolding clauses_left clauses_told clauses_from
clauses_left-empty a x n k t = refl

pub clauses_left-more : {K : Type 0} (a : Asking K) (x : Setting) (n : ℕ) (k : Facts) (t : Trail K) (c : Clause) (cs : List Clause)
    → clauses_left a x n k t (c ∷ cs) ≡ clauses_left a x n k (clause_left a x n k t (ends_case x.script (out-Clause c).end cs) c) cs
unfolding clauses_left clauses_told clauses_from ends_case script_behind
clauses_left-more a x n k t c cs = refl

pub ends_case-Break : (s : List ℕ) (cs : List Clause) → ends_case s clause.Break cs ≡ true
unfolding ends_case is_last
ends_case-Break s cs = refl

pub ends_case-empty : (s : List ℕ) → ends_case s clause.FallThrough [] ≡ true
unfolding ends_case is_last clauses_from
ends_case-empty s = refl

pub ends_case-more : (s : List ℕ) (c : Clause) (cs : List Clause) → ends_case s clause.FallThrough (c ∷ cs) ≡ false
unfolding ends_case is_last clauses_from
ends_case-more s c cs = refl

pub star_of_parts : (s : List ℕ) (ps : List Part) → is_plainly (codes "*") (parts_from s ps) ≡ is_star s ps
unfolding part_of parts_from is_plainly is_star
star_of_parts s [] = refl
star_of_parts s (Plain t ∷ []) = refl
star_of_parts s (Plain t ∷ y ∷ ys) = refl
star_of_parts s (x ∷ xs) = refl

patterns_same : (s : List ℕ) (ws : List Word) → list_any (is_plainly (codes "*")) (words_in (words_from s ws)) ≡ list_any (λ w. is_star s w.parts) ws
unfolding words_in words_from
patterns_same s [] = refl
patterns_same s (w ∷ ws) = ap₂ (λ a b. a || b) (star_of_parts s w.parts) (patterns_same s ws)

always_same : (s : List ℕ) (cs : List Clause) → matches_always (clauses_from s cs) ≡ list_any (has_star s) cs
unfolding matches_always clauses_from
always_same s [] = refl
always_same s (c ∷ cs) = ap₂ (λ a b. a || b) (patterns_same s (out-Clause c).patterns) (always_same s cs)

case_same : {K : Type 0} (a : Asking K) (x : Setting) (n : ℕ) (k : Facts) (cs : List Clause) (kept : K)
    → unmatched_told a x n (matches_always (clauses_from x.script cs)) k (clauses_told a x n k (trail NotReached kept) (clauses_from x.script cs)).kept ≡ case_left a x n k cs kept
unfolding clauses_left
case_same a x n k cs kept = ap (λ m. unmatched_told a x n m k (clauses_told a x n k (trail NotReached kept) (clauses_from x.script cs)).kept) (always_same x.script cs)

-- words of `for`

words_folded : (x : Setting) (k : Facts) (ws : List Word) → gained x (words_gains (words_from x.script ws)) k ≡ fold (word_gained x) k ws
unfolding words_gains words_from
words_folded x k [] = none_gained x k
words_folded x k (w ∷ ws) =
    both_gained x (word_gains (parts_from x.script w.parts)) (words_gains (words_from x.script ws)) k ∙ words_folded x (word_gained x k w) ws

for_words_same : (x : Setting) (k : Facts) (o : Option (List Word)) → behind_list x (for_words_from x.script o) k ≡ for_words_gained x k o
unfolding behind_list for_words_from for_words_gained
for_words_same x k None = refl
for_words_same x k (Some ws) = words_folded x k ws

-- each kind

body_out : {K : Type 0} (a : Asking K) (x : Setting) (f : Text) (c : Command) (kept : K) → body_told a x f (trees.command_of x.script c) kept ≡ returns_told a x f (out-Command c).number kept
unfolding body_told
body_out a x f c kept = ap (λ d. body_told a x f d kept) (rules.command_of-out x.script c)

pub kind_told-Simple : {K : Type 0} (a : Asking K) (x : Setting) (n : ℕ) (k : Facts) (es : List Element) (kept : K) → kind_told a x n k (kind.Simple es) kept ≡ kept
unfolding kind_told compound_told
kind_told-Simple a x n k es kept = ap (λ q. compound_told a x n k q kept) (rules.kind_of-Simple x.script es)

pub kind_told-Group : {K : Type 0} (a : Asking K) (x : Setting) (n : ℕ) (k : Facts) (l : Script) (kept : K) → kind_told a x n k (kind.Group l) kept ≡ leaves_told a x (fault n F10) (script_left x k l) kept
unfolding kind_told compound_told script_behind
kind_told-Group a x n k l kept = ap (λ q. compound_told a x n k q kept) (rules.kind_of-Group x.script l)

pub kind_told-Subshell : {K : Type 0} (a : Asking K) (x : Setting) (n : ℕ) (k : Facts) (l : Script) (kept : K) → kind_told a x n k (kind.Subshell l) kept ≡ leaves_told a x (fault n F11) (both (known_at x (Before n))) kept
unfolding kind_told compound_told
kind_told-Subshell a x n k l kept = ap (λ q. compound_told a x n k q kept) (rules.kind_of-Subshell x.script l)

pub kind_told-Loop : {K : Type 0} (a : Asking K) (x : Setting) (n : ℕ) (k : Facts) (turns : LoopKind) (c l : Script) (kept : K) → kind_told a x n k (kind.Loop turns c l) kept ≡ loop_left a x n turns k c l kept
unfolding kind_told compound_told script_behind
kind_told-Loop a x n k turns c l kept = ap (λ q. compound_told a x n k q kept) (rules.kind_of-Loop x.script turns c l)

pub kind_told-Define : {K : Type 0} (a : Asking K) (x : Setting) (n : ℕ) (k : Facts) (s : Span) (c : Command) (kept : K) → kind_told a x n k (kind.Define s c) kept ≡ define_left a x n (text_of x.script s) c kept
unfolding kind_told compound_told
kind_told-Define a x n k s c kept =
    ap (λ q. compound_told a x n k q kept) (rules.kind_of-Define x.script s c) ∙ body_out a x (text_of x.script s) c _

pub kind_told-Cond : {K : Type 0} (a : Asking K) (x : Setting) (n : ℕ) (k : Facts) (bs : List Branch) (o : Option Script) (kept : K)
    → kind_told a x n k (kind.Cond bs o) kept ≡ otherwise_told a x n (fold (branch_told a x n) (trail k kept) bs) o
unfolding kind_told compound_told
kind_told-Cond a x n k bs o kept =
    ap (λ q. compound_told a x n k q kept) (rules.kind_of-Cond x.script bs o)
    ∙ ap (λ t. b.otherwise_told a x n t (otherwise_from x.script o)) (branches_folded a x n (trail k kept) bs) ∙ otherwise_same a x n (fold (branch_told a x n) (trail k kept) bs) o

pub kind_told-For : {K : Type 0} (a : Asking K) (x : Setting) (n : ℕ) (k : Facts) (s : Span) (o : Option (List Word)) (l : Script) (kept : K)
    → kind_told a x n k (kind.For s o l) kept ≡ for_left a x n s (for_words_gained x k o) l kept
unfolding kind_told compound_told script_behind
kind_told-For a x n k s o l kept =
    ap (λ q. compound_told a x n k q kept) (rules.kind_of-For x.script s o l) ∙ ap (λ f. for_left a x n s f l kept) (for_words_same x k o)

pub kind_told-Branches : {K : Type 0} (a : Asking K) (x : Setting) (n : ℕ) (k : Facts) (v : Word) (cs : List Clause) (kept : K)
    → kind_told a x n k (kind.Branches v cs) kept ≡ case_left a x n (word_gained x k v) cs kept
unfolding kind_told compound_told
kind_told-Branches a x n k v cs kept =
    ap (λ q. compound_told a x n k q kept) (rules.kind_of-Branches x.script v cs) ∙ case_same a x n (word_gained x k v) cs kept

pub ruleset told_kinds = (kind_told-Simple, kind_told-Group, kind_told-Subshell, kind_told-Cond, kind_told-Loop, kind_told-For, kind_told-Branches, kind_told-Define)

pub ruleset ends = (ends_case-Break, ends_case-empty, ends_case-more)

-- a definition, by what a set of names becomes

pub defined_known : (c : Claims) (name : Text) (k l : Knowledge)
    → ((d : Certificate) → knowledge_facts c.names.now l ≡ among c.names.now (step d (Define name) (knowledge_facts c.names.now k)))
    → facts_in (setting c) l ≡ b.defined (setting c) name (facts_in (setting c) k)
unfolding b.defined facts_in setting
defined_known c name k l h = h (certificate (setting c))

-- the clauses of `case`, one after the other

pub none_left : (s : List ℕ) (cs : List Clause) → length cs < 1 → true ≡ ends_case s clause.FallThrough cs
none_left s [] h = sym (ends_case-empty s)
none_left s (c ∷ cs) h = absurd (omega (arith, h))

pub some_left : (s : List ℕ) (cs : List Clause) → 1 ≤ length cs → false ≡ ends_case s clause.FallThrough cs
some_left s [] h = absurd (omega (arith, h))
some_left s (c ∷ cs) h = sym (ends_case-more s c cs)

pub clause_through : {K : Type 0} (a : Asking K) (x : Setting) (n : ℕ) (k : Facts) (t u : Trail K) (last : Bool) (cs : List Clause) (c : Clause) → 1 ≤ length cs → c ≡ get_or cs 0 c
    → ((s : List ℕ) → last ≡ ends_case s (out-Clause c).end (take (length cs - 1) (drop 1 cs))) → u ≡ clause_left a x n k t last c
    → clauses_left a x n k u (take (length cs - 1) (drop 1 cs)) ≡ clauses_left a x n k t cs
clause_through a x n k t u last [] c l at e m = absurd (omega (arith, l))
clause_through a x n k t u last (d ∷ ds) c l at e m =
    let all : take (length (d ∷ ds) - 1) ds ≡ ds = take_all (length (d ∷ ds) - 1) ds (omega arith) in
    let same : c ≡ d = at in
    ap₂ (clauses_left a x n k) (m ∙ ap₂ (clause_left a x n k t) (e x.script ∙ ap₂ (λ y xs. ends_case x.script (out-Clause y).end xs) same all) same) all
    ∙ sym (clauses_left-more a x n k t d ds)

pub clauses_done : {K : Type 0} (a : Asking K) (x : Setting) (n : ℕ) (k : Facts) (t : Trail K) (cs : List Clause) → length cs < 1 → t ≡ clauses_left a x n k t cs
clauses_done a x n k t [] h = sym (clauses_left-empty a x n k t)
clauses_done a x n k t (c ∷ cs) h = absurd (omega (arith, h))

pub case_told : {K : Type 0} (a : Asking K) (x : Setting) (n : ℕ) (k : Facts) (cs : List Clause) (kept mid new : K) (always : Bool) (f g : Facts)
    → new ≡ unmatched_told a x n always k mid → always ≡ list_any (has_star x.script) cs → trail f mid ≡ clauses_left a x n k (trail g kept) cs → g ≡ NotReached
    → new ≡ case_left a x n k cs kept
case_told {K = K} a x n k cs kept mid new always f g h w e same =
    h ∙ ap₂ (λ b m. unmatched_told a x n b k m) w (ap (λ (t : Trail K). t.kept) e ∙ ap (λ g. (clauses_left a x n k (trail g kept) cs).kept) same)
