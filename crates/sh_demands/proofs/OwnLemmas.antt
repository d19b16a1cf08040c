-- What is judged of a command's own words, by the pieces one level below.
use Rattle.std.proofs.Common.{◌≡◌, ℕ, Option, Some, None, List, [], ◌∷◌, fold, refl, ap, ◌∙◌}
use Rattle.sh_tree.specs.declared.place.Place.{Place}
use Rattle.sh_tree.specs.declared.tree.Branch.{Branch}
use Rattle.sh_tree.specs.declared.tree.Clause.{Clause, out-Clause}
use Rattle.sh_tree.specs.declared.tree.Command.{Command}
use Rattle.sh_tree.specs.declared.tree.Direction.{Direction}
use Rattle.sh_tree.specs.declared.tree.Element.{Element, Assignment', Word', Redirection'}
use Rattle.sh_tree.specs.declared.tree.Element.TheVariants as element
use Rattle.sh_tree.specs.declared.tree.HereDoc.{HereDoc}
use Rattle.sh_tree.specs.declared.tree.Kind.{Kind}
use Rattle.sh_tree.specs.declared.tree.Kind.TheVariants as kind
use Rattle.sh_tree.specs.declared.tree.LoopKind.{LoopKind}
use Rattle.sh_tree.specs.declared.tree.Redirect.{Redirect}
use Rattle.sh_tree.specs.declared.tree.Script.{Script}
use Rattle.sh_tree.specs.declared.tree.Span.{Span}
use Rattle.sh_tree.specs.declared.tree.Target.TheVariants as target
use Rattle.sh_tree.specs.declared.tree.Word.{Word}
use Rattle.sh_tree.specs.Lists.{parts_from, words_from, element_from, elements_from, redirects_from, for_words_from, clauses_from}
use Rattle.sh_tree.specs.standard.program.Syntax as p
use Rattle.sh_tree.specs.standard.program.Trees as trees
use Rattle.sh_tree.proofs.ProgramRules as rules
use Rattle.sh_demands.specs.Judged.{Judged, judged, word_judged}
use Rattle.sh_gains.specs.Knowing.{Knowing}
use Rattle.sh_demands.specs.Own.{words_judged, patterns_judged, redirect_judged, redirects_judged, elements_judged, clauses_judged, for_words_judged, kind_judged, own_places}
use Rattle.sh_demands.specs.OwnWalks.{word_step, pattern_step, target_step, redirect_step, element_step, clause_step, listed_step, simple_step, kind_step}
use Rattle.sh_gains.specs.Walks.{element_gained}
use Rattle.sh_gains.proofs.GainLemmas.{operands_gained}

-- lists

words_folded : (b : List ℕ) (s : Judged) (ws : List Word) → words_judged s (words_from b ws) ≡ fold (word_step b) s ws
unfolding words_judged words_from
words_folded b s [] = refl
words_folded b s (w ∷ ws) = words_folded b (word_step b s w) ws

patterns_folded : (b : List ℕ) (s : Judged) (ws : List Word) → patterns_judged s (words_from b ws) ≡ fold (pattern_step b) s ws
unfolding patterns_judged words_from
patterns_folded b s [] = refl
patterns_folded b s (w ∷ ws) = patterns_folded b (pattern_step b s w) ws

redirects_folded : (b : List ℕ) (s : Judged) (rs : List Redirect) → redirects_judged s (redirects_from b rs) ≡ fold (redirect_step b) s rs
unfolding redirects_judged redirects_from target_step
redirects_folded b s [] = refl
redirects_folded b s (r ∷ rs) = redirects_folded b (redirect_step b s r) rs

judged_behind : (b : List ℕ) (k : Knowing) (s : Judged) (e : Element) (rest : p.Elements) → elements_judged k s (element_from b e rest) ≡ elements_judged k (element_step b k s e) rest
unfolding elements_judged element_from element_step
judged_behind b k s (Assignment' name span shape row) rest = refl
judged_behind b k s (Word' span shape row) rest = refl
judged_behind b k s (Redirection' at number target) rest = refl

elements_folded : (b : List ℕ) (k : Knowing) (s : Judged) (es : List Element) → elements_judged k s (elements_from b es) ≡ fold (element_step b k) s es
unfolding elements_judged elements_from
elements_folded b k s [] = refl
elements_folded b k s (e ∷ es) = judged_behind b k s e (elements_from b es) ∙ elements_folded b k (element_step b k s e) es

clauses_folded : (b : List ℕ) (s : Judged) (cs : List Clause) → clauses_judged s (clauses_from b cs) ≡ fold (clause_step b) s cs
unfolding clauses_judged clauses_from clause_step
clauses_folded b s [] = refl
clauses_folded b s (c ∷ cs) = ap (λ t. clauses_judged t (clauses_from b cs)) (patterns_folded b s (out-Clause c).patterns) ∙ clauses_folded b (clause_step b s c) cs

listed_folded : (b : List ℕ) (s : Judged) (o : Option (List Word)) → for_words_judged s (for_words_from b o) ≡ listed_step b s o
unfolding for_words_judged for_words_from listed_step
listed_folded b s None = refl
listed_folded b s (Some ws) = words_folded b s ws

-- targets and elements

pub target_step-File : (b : List ℕ) (s : Judged) (d : Direction) (w : Word) → target_step b s (target.File d w) ≡ word_judged s (parts_from b w.parts)
unfolding target_step redirect_judged
target_step-File b s d w = ap (redirect_judged s) (rules.target_of-File b d w)

pub target_step-Here : (b : List ℕ) (s : Judged) (h : HereDoc) → target_step b s (target.Here h) ≡ word_judged s (parts_from b h.body.parts)
unfolding target_step redirect_judged
target_step-Here b s h = ap (redirect_judged s) (rules.target_of-Here b h)

pub ruleset targets = (target_step-File, target_step-Here)

pub element_step-Assignment : (b : List ℕ) (k : Knowing) (s : Judged) (at : Span) (w : Word) → element_step b k s (element.Assignment at w) ≡ judged s.known (word_judged (judged k s.places) (parts_from b w.parts)).places
unfolding element_step elements_judged
element_step-Assignment b k s at w = ap (elements_judged k s) (rules.element_from-Assignment b at w p.no_elements)

pub element_step-Word : (b : List ℕ) (k : Knowing) (s : Judged) (w : Word) → element_step b k s (element.Word w) ≡ word_judged s (parts_from b w.parts)
unfolding element_step elements_judged
element_step-Word b k s w = ap (elements_judged k s) (rules.element_from-Word b w p.no_elements)

pub element_step-Redirection : (b : List ℕ) (k : Knowing) (s : Judged) (r : Redirect) → element_step b k s (element.Redirection r) ≡ judged s.known (target_step b (judged k s.places) r.target).places
unfolding element_step elements_judged target_step
element_step-Redirection b k s r = ap (elements_judged k s) (rules.element_from-Redirection b r p.no_elements)

pub ruleset elements = (element_step-Assignment, element_step-Word, element_step-Redirection)

-- kinds

pub kind_step-Simple : (b : List ℕ) (s : Judged) (es : List Element) → kind_step b s (kind.Simple es) ≡ simple_step b s es
unfolding kind_step kind_judged
kind_step-Simple b s es =
    ap (kind_judged s) (rules.kind_of-Simple b es)
    ∙ ap (λ k. elements_judged k s (elements_from b es)) (operands_gained b s.known es)
    ∙ elements_folded b (fold (element_gained b) s.known es) s es

pub kind_step-For : (b : List ℕ) (s : Judged) (at : Span) (o : Option (List Word)) (t : Script) → kind_step b s (kind.For at o t) ≡ listed_step b s o
unfolding kind_step kind_judged
kind_step-For b s at o t = ap (kind_judged s) (rules.kind_of-For b at o t) ∙ listed_folded b s o

pub kind_step-Branches : (b : List ℕ) (s : Judged) (w : Word) (cs : List Clause) → kind_step b s (kind.Branches w cs) ≡ fold (clause_step b) (word_judged s (parts_from b w.parts)) cs
unfolding kind_step kind_judged
kind_step-Branches b s w cs = ap (kind_judged s) (rules.kind_of-Branches b w cs) ∙ clauses_folded b (word_step b s w) cs

pub kind_step-Group : (b : List ℕ) (s : Judged) (t : Script) → kind_step b s (kind.Group t) ≡ s
unfolding kind_step kind_judged
kind_step-Group b s t = ap (kind_judged s) (rules.kind_of-Group b t)

pub kind_step-Subshell : (b : List ℕ) (s : Judged) (t : Script) → kind_step b s (kind.Subshell t) ≡ s
unfolding kind_step kind_judged
kind_step-Subshell b s t = ap (kind_judged s) (rules.kind_of-Subshell b t)

pub kind_step-Cond : (b : List ℕ) (s : Judged) (bs : List Branch) (o : Option Script) → kind_step b s (kind.Cond bs o) ≡ s
unfolding kind_step kind_judged
kind_step-Cond b s bs o = ap (kind_judged s) (rules.kind_of-Cond b bs o)

pub kind_step-Loop : (b : List ℕ) (s : Judged) (k : LoopKind) (c t : Script) → kind_step b s (kind.Loop k c t) ≡ s
unfolding kind_step kind_judged
kind_step-Loop b s k c t = ap (kind_judged s) (rules.kind_of-Loop b k c t)

pub kind_step-Define : (b : List ℕ) (s : Judged) (at : Span) (c : Command) → kind_step b s (kind.Define at c) ≡ s
unfolding kind_step kind_judged
kind_step-Define b s at c = ap (kind_judged s) (rules.kind_of-Define b at c)

pub ruleset kinds = (kind_step-Simple, kind_step-For, kind_step-Branches, kind_step-Group, kind_step-Subshell, kind_step-Cond, kind_step-Loop, kind_step-Define)

pub own_walked : (b : List ℕ) (k : Knowing) (ps : List Place) (x : Kind) (rs : List Redirect)
    → own_places k ps (trees.kind_of b x) (redirects_from b rs) ≡ (kind_step b (fold (redirect_step b) (judged k ps) rs) x).places
unfolding kind_step
own_walked b k ps x rs = ap (λ s. (kind_judged s (trees.kind_of b x)).places) (redirects_folded b (judged k ps) rs)
