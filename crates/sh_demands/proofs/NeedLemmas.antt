-- The places that a parameter and arithmetic need, by the pieces one level below.
use Rattle.std.proofs.Common.{◌≡◌, ℕ, Option, Some, None, List, [], ◌∷◌, ◌++◌, fold, refl, sym, ap, ◌∙◌, append_assoc}
use Rattle.std.proofs.lemmas.List.{append-nil}
use Rattle.sh_tree.specs.declared.place.Place.{Place}
use Rattle.sh_tree.specs.declared.place.Code.TheVariants.{U1, U3}
use Rattle.sh_tree.specs.declared.tree.Binary.{Binary}
use Rattle.sh_tree.specs.declared.tree.Expr.{Expr}
use Rattle.sh_tree.specs.declared.tree.Expr.TheVariants as expression
use Rattle.sh_tree.specs.declared.tree.Part.{Part}
use Rattle.sh_tree.specs.declared.tree.Span.{Span}
use Rattle.sh_tree.specs.declared.tree.Special.{Special}
use Rattle.sh_tree.specs.declared.tree.Special.TheVariants as special
use Rattle.sh_tree.specs.declared.tree.Subject.TheVariants as subject
use Rattle.sh_tree.specs.declared.tree.Unary.{Unary}
use Rattle.sh_tree.specs.standard.Tree.{text_of}
use Rattle.sh_tree.specs.Lists.{operands_from}
use Rattle.sh_tree.specs.standard.program.Syntax as p
use Rattle.sh_tree.specs.standard.program.Trees as trees
use Rattle.sh_tree.proofs.ProgramRules as rules
use Rattle.sh_runs.specs.standard.runs.Numbers.{digits}
use Rattle.sh_domain.specs.Facts.{Facts, claims, Parameters}
use Rattle.sh_domain.specs.Gains.{job}
use Rattle.sh_domain.specs.Needs.{wanted, covers, parameter_text, name_needed, target_needed, reads_unmet, operands_read}
use Rattle.sh_demands.specs.Walks.{name_noted, parameter_noted, subject_noted, target_noted, reads_noted, step_noted}

none_more : {qs : List Place} (ps : List Place) → qs ≡ [] → ps ++ qs ≡ ps
none_more ps e = ap (λ xs. ps ++ xs) e ∙ append-nil ps

-- parameters

pub parameter_noted-Positional : (f : Facts) (at n : ℕ) (ps : List Place) → parameter_noted f at (p.Positional n) ps ≡ ps ++ wanted (claims f (Parameters n)) at U1 (digits n)
unfolding parameter_noted covers parameter_text
parameter_noted-Positional f at n ps = refl

pub ruleset positionals = (parameter_noted-Positional)

pub parameter_noted-Exclamation : (f : Facts) (at : ℕ) (ps : List Place) → parameter_noted f at (p.Special special.Exclamation) ps ≡ name_noted f U1 at job ps
unfolding parameter_noted name_noted name_needed covers parameter_text
parameter_noted-Exclamation f at ps = refl

pub parameter_noted-At : (f : Facts) (at : ℕ) (ps : List Place) → parameter_noted f at (p.Special special.At) ps ≡ ps
unfolding parameter_noted covers wanted
parameter_noted-At f at ps = append-nil ps

pub parameter_noted-Asterisk : (f : Facts) (at : ℕ) (ps : List Place) → parameter_noted f at (p.Special special.Asterisk) ps ≡ ps
unfolding parameter_noted covers wanted
parameter_noted-Asterisk f at ps = append-nil ps

pub parameter_noted-NumberSign : (f : Facts) (at : ℕ) (ps : List Place) → parameter_noted f at (p.Special special.NumberSign) ps ≡ ps
unfolding parameter_noted covers wanted
parameter_noted-NumberSign f at ps = append-nil ps

pub parameter_noted-QuestionMark : (f : Facts) (at : ℕ) (ps : List Place) → parameter_noted f at (p.Special special.QuestionMark) ps ≡ ps
unfolding parameter_noted covers wanted
parameter_noted-QuestionMark f at ps = append-nil ps

pub parameter_noted-Hyphen : (f : Facts) (at : ℕ) (ps : List Place) → parameter_noted f at (p.Special special.Hyphen) ps ≡ ps
unfolding parameter_noted covers wanted
parameter_noted-Hyphen f at ps = append-nil ps

pub parameter_noted-Dollar : (f : Facts) (at : ℕ) (ps : List Place) → parameter_noted f at (p.Special special.Dollar) ps ≡ ps
unfolding parameter_noted covers wanted
parameter_noted-Dollar f at ps = append-nil ps

pub parameter_noted-Zero : (f : Facts) (at : ℕ) (ps : List Place) → parameter_noted f at (p.Special special.Zero) ps ≡ ps
unfolding parameter_noted covers wanted
parameter_noted-Zero f at ps = append-nil ps

pub ruleset specials = (parameter_noted-Exclamation, parameter_noted-At, parameter_noted-Asterisk, parameter_noted-NumberSign, parameter_noted-QuestionMark, parameter_noted-Hyphen, parameter_noted-Dollar, parameter_noted-Zero)

pub subject_noted-Name : (b : List ℕ) (f : Facts) (at : ℕ) (s : Span) (ps : List Place) → subject_noted b f at (subject.Name s) ps ≡ name_noted f U1 at (text_of b s) ps
unfolding subject_noted name_noted name_needed covers parameter_text trees.parameter_of
subject_noted-Name b f at s ps = refl

pub subject_noted-Positional : (b : List ℕ) (f : Facts) (at n : ℕ) (s : Span) (ps : List Place) → subject_noted b f at (subject.Positional n s) ps ≡ parameter_noted f at (p.Positional n) ps
unfolding subject_noted parameter_noted trees.parameter_of
subject_noted-Positional b f at n s ps = refl

pub subject_noted-Special : (b : List ℕ) (f : Facts) (at : ℕ) (c : Special) (s : Span) (ps : List Place) → subject_noted b f at (subject.Special c s) ps ≡ parameter_noted f at (p.Special c) ps
unfolding subject_noted parameter_noted trees.parameter_of
subject_noted-Special b f at c s ps = refl

pub ruleset parameters = (subject_noted-Name, subject_noted-Positional, subject_noted-Special)

-- arithmetic

pub target_noted-None : (b : List ℕ) (f : Facts) (s : Span) (ps : List Place) → target_noted b f None s ps ≡ ps
unfolding target_noted target_needed
target_noted-None b f s ps = append-nil ps

pub target_noted-Some : (b : List ℕ) (f : Facts) (o : Binary) (s : Span) (ps : List Place) → target_noted b f (Some o) s ps ≡ name_noted f U3 s.start (text_of b s) ps
unfolding target_noted target_needed name_noted
target_noted-Some b f o s ps = refl

pub ruleset assignments = (target_noted-None, target_noted-Some)

steps_folded : (b : List ℕ) (f : Facts) (ps : List Place) (es : List (Binary × Expr)) → ps ++ operands_read f (operands_from b es) ≡ fold (step_noted b f) ps es
unfolding reads_unmet operands_from reads_noted
steps_folded b f ps [] = append-nil ps
steps_folded b f ps (x ∷ xs) =
    sym (append_assoc ps (reads_unmet f (trees.expression_of b x.1)) (operands_read f (operands_from b xs))) ∙ steps_folded b f (step_noted b f ps x) xs

pub reads_noted-Constant : (b : List ℕ) (f : Facts) (ps : List Place) (s : Span) → reads_noted b f ps (expression.Constant s) ≡ ps
unfolding reads_noted reads_unmet
reads_noted-Constant b f ps s = none_more ps (ap (reads_unmet f) (rules.expression_of-Constant b s))

pub reads_noted-Variable : (b : List ℕ) (f : Facts) (ps : List Place) (s : Span) → reads_noted b f ps (expression.Variable s) ≡ name_noted f U3 s.start (text_of b s) ps
unfolding reads_noted reads_unmet name_noted
reads_noted-Variable b f ps s = ap (λ e. ps ++ reads_unmet f e) (rules.expression_of-Variable b s)

pub reads_noted-Expansion : (b : List ℕ) (f : Facts) (ps : List Place) (x : Part) → reads_noted b f ps (expression.Expansion x) ≡ ps
unfolding reads_noted reads_unmet
reads_noted-Expansion b f ps x = none_more ps (ap (reads_unmet f) (rules.expression_of-Expansion b x))

pub reads_noted-Parenthesis : (b : List ℕ) (f : Facts) (ps : List Place) (e : Expr) → reads_noted b f ps (expression.Parenthesis e) ≡ reads_noted b f ps e
unfolding reads_noted reads_unmet
reads_noted-Parenthesis b f ps e = ap (λ x. ps ++ reads_unmet f x) (rules.expression_of-Parenthesis b e)

pub reads_noted-Unary : (b : List ℕ) (f : Facts) (ps : List Place) (u : Unary) (e : Expr) → reads_noted b f ps (expression.Unary u e) ≡ reads_noted b f ps e
unfolding reads_noted reads_unmet
reads_noted-Unary b f ps u e = ap (λ x. ps ++ reads_unmet f x) (rules.expression_of-Unary b u e)

pub reads_noted-Chain : (b : List ℕ) (f : Facts) (ps : List Place) (e : Expr) (es : List (Binary × Expr))
    → reads_noted b f ps (expression.Chain e es) ≡ fold (step_noted b f) (reads_noted b f ps e) es
unfolding reads_noted reads_unmet
reads_noted-Chain b f ps e es =
    ap (λ x. ps ++ reads_unmet f x) (rules.expression_of-Chain b e es)
    ∙ sym (append_assoc ps (reads_unmet f (trees.expression_of b e)) (operands_read f (operands_from b es)))
    ∙ steps_folded b f (ps ++ reads_unmet f (trees.expression_of b e)) es

pub reads_noted-Choice : (b : List ℕ) (f : Facts) (ps : List Place) (c y n : Expr)
    → reads_noted b f ps (expression.Choice c y n) ≡ reads_noted b f (reads_noted b f (reads_noted b f ps c) y) n
unfolding reads_noted reads_unmet
reads_noted-Choice b f ps c y n =
    let one = reads_unmet f (trees.expression_of b c) in
    let two = reads_unmet f (trees.expression_of b y) in
    let three = reads_unmet f (trees.expression_of b n) in
    ap (λ x. ps ++ reads_unmet f x) (rules.expression_of-Choice b c y n)
    ∙ sym (append_assoc ps (one ++ two) three) ∙ ap (λ xs. xs ++ three) (sym (append_assoc ps one two))

pub reads_noted-Assign : (b : List ℕ) (f : Facts) (ps : List Place) (s : Span) (o : Option Binary) (e : Expr)
    → reads_noted b f ps (expression.Assign s o e) ≡ reads_noted b f (target_noted b f o s ps) e
unfolding reads_noted reads_unmet target_noted
reads_noted-Assign b f ps s o e =
    ap (λ x. ps ++ reads_unmet f x) (rules.expression_of-Assign b s o e)
    ∙ sym (append_assoc ps (target_needed f o s.start (text_of b s)) (reads_unmet f (trees.expression_of b e)))

pub ruleset reads = (reads_noted-Constant, reads_noted-Variable, reads_noted-Expansion, reads_noted-Parenthesis, reads_noted-Unary, reads_noted-Chain, reads_noted-Choice, reads_noted-Assign)
