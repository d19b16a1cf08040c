-- What is gained, of the names that are numbered.
use Rattle.std.proofs.Common.{◌≡◌, ◌<◌, false, List, [], ◌∷◌, cond, length, fold, refl, sym, ap, ◌∙◌, arith}
use Rattle.sh_tree.specs.declared.tree.Action.{Action}
use Rattle.sh_tree.specs.declared.tree.Action.TheVariants as action
use Rattle.sh_tree.specs.declared.tree.Element.{Element, Assignment', Word', Redirection'}
use Rattle.sh_tree.specs.declared.tree.Element.TheVariants as element
use Rattle.sh_tree.specs.declared.tree.Expr.{Expr}
use Rattle.sh_tree.specs.declared.tree.Redirect.{Redirect}
use Rattle.sh_tree.specs.declared.tree.Span.{Span}
use Rattle.sh_tree.specs.declared.tree.Subject.{Subject}
use Rattle.sh_tree.specs.declared.tree.Word.{Word}
use Rattle.sh_tree.specs.Lists.{parts_from, element_from, elements_from, redirects_from}
use Rattle.sh_tree.specs.standard.program.Syntax as p
use Rattle.sh_tree.specs.standard.program.Syntax.{Text}
use Rattle.sh_tree.specs.standard.program.Trees as trees
use Rattle.sh_tree.specs.standard.program.Words.{operands_in}
use Rattle.sh_tree.proofs.ProgramRules as rules
use Rattle.sh_runs.specs.standard.runs.Environment.{is_one_of}
use Rattle.sh_domain.specs.Facts.{Facts}
use Rattle.sh_domain.specs.Gains.{Gains, no_gains, and_gains, named, sure, assigned_in, word_gains, words_gains, redirects_gains, with_gains}
use Rattle.sh_domain.specs.Knowledge as knowledge
use Rattle.sh_domain.specs.Knowledge.{knowledge_facts}
use Rattle.sh_domain.specs.declared.knowledge.Knowledge.{Knowledge}
use Rattle.sh_domain.proofs.KnownNameLemmas.{names_suffice}
use Rattle.sh_gains.specs.Knowing.{inner_gains, Knowing, action_gains}
use Rattle.sh_gains.specs.Knowing as knowing
use Rattle.sh_gains.specs.Walks.{action_gained, subject_gained, expression_assigned}
use Rattle.sh_gains.proofs.KnowingLemmas.{gained_none, gained_both}
use Rattle.sh_rules.specs.Settings.{Setting, gained}
use Rattle.sh_rules.specs.declared.claims.Claims.{Claims}
use Rattle.sh_rules.specs.Walks.{facts_in, setting}
use Rattle.sh_rules.specs.Steps.{element_gained}

abbrev known : List Text → Facts → Knowing
known ns f = record { names = ns; facts = f }

facts_named : (x : Setting) (k l : Knowledge) (t : Text) → knowledge_facts x.names l ≡ knowledge.among x.names (with_gains (named (t ∷ [])) (knowledge_facts x.names k))
    → knowledge_facts x.names l ≡ gained x (named (t ∷ [])) (knowledge_facts x.names k)
unfolding gained
facts_named x k l t h = h ∙ names_suffice.told x.names k (named (t ∷ []))

pub name_gained : (c : Claims) (k l : Knowledge) (t : Text) → knowledge_facts c.names.now l ≡ knowledge.among c.names.now (with_gains (named (t ∷ [])) (knowledge_facts c.names.now k))
    → facts_in (setting c) l ≡ gained (setting c) (named (t ∷ [])) (facts_in (setting c) k)
unfolding facts_in setting
name_gained c k l t h = facts_named (setting c) k l t h

-- what a walk over words knows, as facts of the names of the script
pub facts_gained : (x : Setting) (ms : List Text) (k l : Knowledge) (g : Gains) → known ms (knowledge_facts ms l) ≡ knowing.gained g (known x.names (knowledge_facts x.names k))
    → knowledge_facts x.names l ≡ gained x g (knowledge_facts x.names k)
unfolding gained knowing.gained
facts_gained x ms k l g e = ap (λ (z : Knowing). knowledge_facts z.names l) (sym e) ∙ ap (λ (z : Knowing). z.facts) e

pub word_known : (c : Claims) (ms : List Text) (k l : Knowledge) (v : Word) → known ms (knowledge_facts ms l) ≡ knowing.gained (word_gains (parts_from c.script.now v.parts)) (known c.names.now (knowledge_facts c.names.now k))
    → facts_in (setting c) l ≡ gained (setting c) (word_gains (parts_from (setting c).script v.parts)) (facts_in (setting c) k)
unfolding facts_in setting
word_known c ms k l v e = facts_gained (setting c) ms k l (word_gains (parts_from (setting c).script v.parts)) e

pub redirects_known : (c : Claims) (ms : List Text) (k l : Knowledge) (rs : List Redirect)
    → known ms (knowledge_facts ms l) ≡ knowing.gained (redirects_gains (redirects_from c.script.now rs)) (known c.names.now (knowledge_facts c.names.now k))
    → facts_in (setting c) l ≡ gained (setting c) (redirects_gains (redirects_from (setting c).script rs)) (facts_in (setting c) k)
unfolding facts_in setting
redirects_known c ms k l rs e = facts_gained (setting c) ms k l (redirects_gains (redirects_from (setting c).script rs)) e

pub subject_known : (c : Claims) (ms : List Text) (k l : Knowledge) (v : Subject) → known ms (knowledge_facts ms l) ≡ subject_gained c.script.now (known c.names.now (knowledge_facts c.names.now k)) v
    → facts_in (setting c) l ≡ gained (setting c) (sure (trees.parameter_of (setting c).script v)) (facts_in (setting c) k)
unfolding facts_in setting subject_gained
subject_known c ms k l v e = facts_gained (setting c) ms k l (sure (trees.parameter_of (setting c).script v)) e

pub action_known : (c : Claims) (ms : List Text) (k l : Knowledge) (v : Subject) (a : Action) → known ms (knowledge_facts ms l) ≡ action_gained c.script.now (known c.names.now (knowledge_facts c.names.now k)) v a
    → facts_in (setting c) l ≡ gained (setting c) (action_gains (trees.parameter_of (setting c).script v) a) (facts_in (setting c) k)
unfolding facts_in setting action_gained
action_known c ms k l v a e = facts_gained (setting c) ms k l (action_gains (trees.parameter_of (setting c).script v) a) e

pub assigned_known : (c : Claims) (ms : List Text) (k l : Knowledge) (v : Expr) → known ms (knowledge_facts ms l) ≡ expression_assigned c.script.now (known c.names.now (knowledge_facts c.names.now k)) v
    → facts_in (setting c) l ≡ gained (setting c) (named (assigned_in (trees.expression_of (setting c).script v))) (facts_in (setting c) k)
unfolding facts_in setting expression_assigned
assigned_known c ms k l v e = facts_gained (setting c) ms k l (named (assigned_in (trees.expression_of (setting c).script v))) e

-- if nothing is gained, nothing changes; one gain after another

pub none_gained : (x : Setting) (f : Facts) → gained x no_gains f ≡ f
unfolding gained knowing.gained
none_gained x f = ap (λ (z : Knowing). z.facts) (gained_none (known x.names f))

pub no_redirects : (x : Setting) (rs : List Redirect) (f : Facts) → length rs < 1 → f ≡ gained x (redirects_gains (redirects_from x.script rs)) f
unfolding redirects_from redirects_gains
no_redirects x [] f h = sym (none_gained x f)
no_redirects x (r ∷ rs) f h = absurd (omega (arith, h))

-- a name that is none of the script's
pub other_gained : (x : Setting) (t : Text) (f : Facts) → is_one_of x.names t ≡ false → gained x (named (t ∷ [])) f ≡ f
unfolding gained
other_gained x t f h = ap (λ b. with_gains (record { names = cond b (t ∷ []) []; args = 0 }) f) h ∙ none_gained x f

pub both_gained : (x : Setting) (g h : Gains) (f : Facts) → gained x (and_gains g h) f ≡ gained x h (gained x g f)
unfolding gained knowing.gained
both_gained x g h f = ap (λ (z : Knowing). z.facts) (gained_both g h (known x.names f))

-- after operators

pub inner-Default : (x : Setting) (q : p.Parameter) (f : Facts) → gained x (inner_gains q action.Default) f ≡ f
unfolding inner_gains
inner-Default x q f = none_gained x f

pub inner-Assign : (x : Setting) (q : p.Parameter) (f : Facts) → gained x (inner_gains q action.Assign) f ≡ f
unfolding inner_gains
inner-Assign x q f = none_gained x f

pub inner-Fault : (x : Setting) (q : p.Parameter) (f : Facts) → gained x (inner_gains q action.Fault) f ≡ f
unfolding inner_gains
inner-Fault x q f = none_gained x f

pub inner-Alternative : (x : Setting) (q : p.Parameter) (f : Facts) → gained x (inner_gains q action.Alternative) f ≡ gained x (sure q) f
unfolding inner_gains
inner-Alternative x q f = refl

pub ruleset actions = (inner-Default, inner-Assign, inner-Fault, inner-Alternative)

-- the words of a simple command

one : (x : Setting) (v : p.Word) (f : Facts) → gained x (words_gains (p.more_words v p.no_words)) f ≡ gained x (word_gains v) f
unfolding words_gains
one x v f = both_gained x (word_gains v) no_gains f ∙ none_gained x (gained x (word_gains v) f)

pub element_gained-Assignment : (x : Setting) (f : Facts) (s : Span) (v : Word) → element_gained x f (element.Assignment s v) ≡ f
unfolding element_gained operands_in words_gains
element_gained-Assignment x f s v = ap (λ e. gained x (words_gains (operands_in e)) f) (rules.element_from-Assignment x.script s v p.no_elements) ∙ none_gained x f

pub element_gained-Word : (x : Setting) (f : Facts) (v : Word) → element_gained x f (element.Word v) ≡ gained x (word_gains (parts_from x.script v.parts)) f
unfolding element_gained operands_in
element_gained-Word x f v = ap (λ e. gained x (words_gains (operands_in e)) f) (rules.element_from-Word x.script v p.no_elements) ∙ one x (parts_from x.script v.parts) f

pub element_gained-Redirection : (x : Setting) (f : Facts) (r : Redirect) → element_gained x f (element.Redirection r) ≡ f
unfolding element_gained operands_in words_gains
element_gained-Redirection x f r = ap (λ e. gained x (words_gains (operands_in e)) f) (rules.element_from-Redirection x.script r p.no_elements) ∙ none_gained x f

pub ruleset operand_elements = (element_gained-Assignment, element_gained-Word, element_gained-Redirection)

operand_split : (x : Setting) (f : Facts) (e : Element) (rest : p.Elements)
    → gained x (words_gains (operands_in (element_from x.script e rest))) f ≡ gained x (words_gains (operands_in rest)) (element_gained x f e)
unfolding element_gained element_from operands_in words_gains
operand_split x f (Assignment' name s shape row) rest = ap (gained x (words_gains (operands_in rest))) (sym (none_gained x f))
operand_split x f (Word' s shape row) rest =
    both_gained x (word_gains (trees.word_of x.script row)) (words_gains (operands_in rest)) f
    ∙ ap (gained x (words_gains (operands_in rest))) (sym (one x (trees.word_of x.script row) f))
operand_split x f (Redirection' at number target) rest = ap (gained x (words_gains (operands_in rest))) (sym (none_gained x f))

pub elements_gained : (x : Setting) (f : Facts) (es : List Element) → gained x (words_gains (operands_in (elements_from x.script es))) f ≡ fold (element_gained x) f es
unfolding elements_from operands_in words_gains
elements_gained x f [] = none_gained x f
elements_gained x f (e ∷ es) = operand_split x f e (elements_from x.script es) ∙ elements_gained x (element_gained x f e) es
