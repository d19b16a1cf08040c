-- What a part of a word is to field splitting, by the program that it means.
use Rattle.std.proofs.Common.{◌≡◌, ℕ, Bool, true, false, ◌&&◌, ◌||◌, List, [], ◌∷◌, Some, None, refl, ap, ap₂, ◌∙◌}
use Rattle.std.specs.List.{list_all}
use Rattle.sh_tree.specs.declared.tree.Action.{Action}
use Rattle.sh_tree.specs.declared.tree.Action.TheVariants as action
use Rattle.sh_tree.specs.declared.tree.CommandStyle.{CommandStyle}
use Rattle.sh_tree.specs.declared.tree.Expr.{Expr}
use Rattle.sh_tree.specs.declared.tree.ParameterOperator.TheVariants as operator
use Rattle.sh_tree.specs.declared.tree.Param.{Param}
use Rattle.sh_tree.specs.declared.tree.Part.{Part, Param', Double', Arith'}
use Rattle.sh_tree.specs.declared.tree.Part.TheVariants as part
use Rattle.sh_tree.specs.declared.tree.Removal.{Removal}
use Rattle.sh_tree.specs.declared.tree.Script.{Script}
use Rattle.sh_tree.specs.declared.tree.SingleStyle.{SingleStyle}
use Rattle.sh_tree.specs.declared.tree.Span.{Span}
use Rattle.sh_tree.specs.declared.tree.Subject.{Subject}
use Rattle.sh_tree.specs.declared.tree.Subject.TheVariants as subject
use Rattle.sh_tree.specs.declared.tree.Word.{Word}
use Rattle.sh_tree.specs.Lists.{parts_from}
use Rattle.sh_tree.specs.standard.language.Parts.{is_quotation}
use Rattle.sh_tree.specs.standard.language.Words.{is_alternative}
use Rattle.sh_tree.specs.standard.program.Syntax as p
use Rattle.sh_tree.specs.standard.program.Trees as trees
use Rattle.sh_tree.proofs.ProgramRules as rules
use Rattle.sh_runs.specs.Quoting as quoting
use Rattle.sh_quote.specs.Places as places
use Rattle.sh_quote.specs.Quotations.{are_some_quotes, quoted_alternative, subject_is_numeric, number_given, told, part_told}

-- quotations

quote_of : (b : List ℕ) (x : Part) → quoting.is_quotation (trees.part_of b x) ≡ is_quotation x
unfolding quoting.is_quotation trees.part_of is_quotation
quote_of b (part.Plain s) = refl
quote_of b (part.Escaped s) = refl
quote_of b (part.Single style s) = refl
quote_of b (Double' s shape row) = refl
quote_of b (Param' s subject operator) = refl
quote_of b (Arith' s shape row) = refl
quote_of b (part.Command style s t) = refl
quote_of b (part.Tilde s) = refl
quote_of b (part.Joined s) = refl

pub quotes_listed : (b : List ℕ) (ps : List Part) → quoting.are_quotations (parts_from b ps) ≡ list_all is_quotation ps
unfolding quoting.are_quotations parts_from
quotes_listed b [] = refl
quotes_listed b (x ∷ xs) = ap₂ (λ t u. t && u) (quote_of b x) (quotes_listed b xs)

-- alternatives

some_quotes : (b : List ℕ) (colon : Bool) (ps : List Part) → quoting.is_quoted_alternative (p.Use action.Alternative colon (parts_from b ps)) ≡ are_some_quotes ps
unfolding quoting.is_quoted_alternative are_some_quotes parts_from
some_quotes b colon [] = refl
some_quotes b colon (x ∷ xs) = quotes_listed b (x ∷ xs)

by_action : (b : List ℕ) (a : Action) (colon : Bool) (ps : List Part) → quoting.is_quoted_alternative (p.Use a colon (parts_from b ps)) ≡ (is_alternative a && are_some_quotes ps)
unfolding quoting.is_quoted_alternative
by_action b action.Alternative colon ps = some_quotes b colon ps
by_action b action.Default colon ps = refl
by_action b action.Assign colon ps = refl
by_action b action.Fault colon ps = refl

pub alternative-Use : (b : List ℕ) (a : Action) (colon : Bool) (w : Word) → quoted_alternative b (operator.Use a colon w) ≡ (is_alternative a && are_some_quotes w.parts)
unfolding quoted_alternative
alternative-Use b a colon w = ap quoting.is_quoted_alternative (rules.operator_of-Use b a colon w) ∙ by_action b a colon w.parts

pub alternative-Remove : (b : List ℕ) (r : Removal) (w : Word) → quoted_alternative b (operator.Remove r w) ≡ false
unfolding quoted_alternative quoting.is_quoted_alternative
alternative-Remove b r w = ap quoting.is_quoted_alternative (rules.operator_of-Remove b r w)

pub alternative-Value : (b : List ℕ) → quoted_alternative b operator.Value ≡ false
unfolding quoted_alternative quoting.is_quoted_alternative
alternative-Value b = ap quoting.is_quoted_alternative (rules.operator_of-Value b)

pub alternative-Length : (b : List ℕ) → quoted_alternative b operator.Length ≡ false
unfolding quoted_alternative quoting.is_quoted_alternative
alternative-Length b = ap quoting.is_quoted_alternative (rules.operator_of-Length b)

pub ruleset alternatives = (alternative-Use, alternative-Remove, alternative-Value, alternative-Length)

-- numbers

value_number : (b : List ℕ) (s : Subject) → quoting.gives_number (trees.parameter_of b s) p.Value ≡ subject_is_numeric s
unfolding quoting.gives_number trees.parameter_of subject_is_numeric
value_number b (subject.Name s) = refl
value_number b (subject.Positional n s) = refl
value_number b (subject.Special c s) = refl

length_number : (x : p.Parameter) → quoting.gives_number x p.Length ≡ true
unfolding quoting.gives_number
length_number (p.Variable name) = refl
length_number (p.Positional n) = refl
length_number (p.Special c) = refl

use_number : (x : p.Parameter) (a : Action) (colon : Bool) (w : p.Word) → quoting.gives_number x (p.Use a colon w) ≡ false
unfolding quoting.gives_number
use_number (p.Variable name) a colon w = refl
use_number (p.Positional n) a colon w = refl
use_number (p.Special c) a colon w = refl

removal_number : (x : p.Parameter) (r : Removal) (w : p.Word) → quoting.gives_number x (p.Remove r w) ≡ false
unfolding quoting.gives_number
removal_number (p.Variable name) r w = refl
removal_number (p.Positional n) r w = refl
removal_number (p.Special c) r w = refl

pub number-Value : (b : List ℕ) (s : Subject) → number_given b s operator.Value ≡ subject_is_numeric s
unfolding number_given
number-Value b s = ap (quoting.gives_number (trees.parameter_of b s)) (rules.operator_of-Value b) ∙ value_number b s

pub number-Length : (b : List ℕ) (s : Subject) → number_given b s operator.Length ≡ true
unfolding number_given
number-Length b s = ap (quoting.gives_number (trees.parameter_of b s)) (rules.operator_of-Length b) ∙ length_number (trees.parameter_of b s)

pub number-Use : (b : List ℕ) (s : Subject) (a : Action) (colon : Bool) (w : Word) → number_given b s (operator.Use a colon w) ≡ false
unfolding number_given
number-Use b s a colon w = ap (quoting.gives_number (trees.parameter_of b s)) (rules.operator_of-Use b a colon w) ∙ use_number (trees.parameter_of b s) a colon (parts_from b w.parts)

pub number-Remove : (b : List ℕ) (s : Subject) (r : Removal) (w : Word) → number_given b s (operator.Remove r w) ≡ false
unfolding number_given
number-Remove b s r w = ap (quoting.gives_number (trees.parameter_of b s)) (rules.operator_of-Remove b r w) ∙ removal_number (trees.parameter_of b s) r (parts_from b w.parts)

pub ruleset numbers = (number-Value, number-Length, number-Use, number-Remove)

-- what is reported of a part

pub part_told-Param : (b : List ℕ) (numbers : Bool) (x : Param)
    → part_told b numbers (part.Param x) ≡ places.told_at ((numbers && number_given b x.subject x.operator) || quoted_alternative b x.operator) x.span.start
unfolding part_told places.part_places number_given quoted_alternative
part_told-Param b numbers x = ap (places.part_places numbers) (rules.part_of-Param b x)

pub part_told-Arith : (b : List ℕ) (numbers : Bool) (s : Span) (e : Expr) → part_told b numbers (part.Arith s e) ≡ places.told_at numbers s.start
unfolding part_told places.part_places
part_told-Arith b numbers s e = ap (places.part_places numbers) (rules.part_of-Arith b s e)

pub part_told-Command : (b : List ℕ) (numbers : Bool) (style : CommandStyle) (s : Span) (t : Script) → part_told b numbers (part.Command style s t) ≡ told (Some s.start)
unfolding part_told places.part_places told
part_told-Command b numbers style s t = ap (places.part_places numbers) (rules.part_of-Command b style s t)

pub part_told-Plain : (b : List ℕ) (numbers : Bool) (s : Span) → part_told b numbers (part.Plain s) ≡ told None
unfolding part_told places.part_places told
part_told-Plain b numbers s = ap (places.part_places numbers) (rules.part_of-Plain b s)

pub part_told-Escaped : (b : List ℕ) (numbers : Bool) (s : Span) → part_told b numbers (part.Escaped s) ≡ told None
unfolding part_told places.part_places told
part_told-Escaped b numbers s = ap (places.part_places numbers) (rules.part_of-Escaped b s)

pub part_told-Single : (b : List ℕ) (numbers : Bool) (style : SingleStyle) (s : Span) → part_told b numbers (part.Single style s) ≡ told None
unfolding part_told places.part_places told
part_told-Single b numbers style s = ap (places.part_places numbers) (rules.part_of-Single b style s)

pub part_told-Double : (b : List ℕ) (numbers : Bool) (s : Span) (ps : List Part) → part_told b numbers (part.Double s ps) ≡ told None
unfolding part_told places.part_places told
part_told-Double b numbers s ps = ap (places.part_places numbers) (rules.part_of-Double b s ps)

pub part_told-Tilde : (b : List ℕ) (numbers : Bool) (s : Span) → part_told b numbers (part.Tilde s) ≡ told None
unfolding part_told places.part_places told
part_told-Tilde b numbers s = ap (places.part_places numbers) (rules.part_of-Tilde b s)

pub part_told-Joined : (b : List ℕ) (numbers : Bool) (s : Span) → part_told b numbers (part.Joined s) ≡ told None
unfolding part_told places.part_places told
part_told-Joined b numbers s = ap (places.part_places numbers) (rules.part_of-Joined b s)

pub ruleset told_parts = (part_told-Param, part_told-Arith, part_told-Command, part_told-Plain, part_told-Escaped, part_told-Single, part_told-Double, part_told-Tilde, part_told-Joined)
