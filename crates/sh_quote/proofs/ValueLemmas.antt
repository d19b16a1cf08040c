-- Values that are static and separate no numbers, part by part.
use Rattle.std.proofs.Common.{◌≡◌, ℕ, ◌==◌, Bool, true, false, not, ◌&&◌, ◌||◌, if◌then◌else◌, cond, List, [], ◌∷◌, ◌++◌, Option, Some, None, unwrap_or, option_map, refl, sym, ap, ap₂, ◌∙◌, ⊎_elim, arith}
use Rattle.std.specs.List.{list_any, list_all}
use Rattle.std.proofs.lemmas.Bool.{cases_Bool, cond-true, cond-false, eqb-true}
use Rattle.std.proofs.lemmas.Bool.Decides.{nat_tests}
use Rattle.std.proofs.lemmas.List.Folds.{list_any-append}
use Rattle.sh_tree.specs.declared.tree.CommandStyle.{CommandStyle}
use Rattle.sh_tree.specs.declared.tree.Expr.{Expr}
use Rattle.sh_tree.specs.declared.tree.Param.{Param}
use Rattle.sh_tree.specs.declared.tree.Part.{Part}
use Rattle.sh_tree.specs.declared.tree.Part.TheVariants as part
use Rattle.sh_tree.specs.declared.tree.Script.{Script}
use Rattle.sh_tree.specs.declared.tree.SingleStyle.{SingleStyle}
use Rattle.sh_tree.specs.declared.tree.Span.{Span}
use Rattle.sh_tree.specs.standard.Tree.{text_of}
use Rattle.sh_tree.specs.standard.Words.{both_texts, behind_first, escape_of, escaped, single_text, is_wildcard, part_text, parts_text, part_text-Double}
use Rattle.sh_tree.specs.Lists.{parts_from}
use Rattle.sh_tree.specs.standard.program.Syntax as p
use Rattle.sh_tree.specs.standard.program.Syntax.{Text}
use Rattle.sh_tree.specs.standard.program.Words as words
use Rattle.sh_tree.specs.standard.program.Words.{before_word, word_text, word_has, is_plainly, static_of}
use Rattle.sh_tree.proofs.ProgramWords.{text_of_parts, wildcard_of_parts, bracket_of_parts, lone_bracket_of_parts}
use Rattle.sh_runs.specs.Quoting.{is_steady}
use Rattle.sh_quote.specs.Steady.{steady_value}
use Rattle.sh_quote.specs.Values.{separates_numbers, steady_static, part_steady, value_is_bracket, value_is_pattern}

-- two texts, one after the other

apart : (x y : Bool) → not (x || y) ≡ (not x && not y)
apart true y = refl
apart false y = refl

never : (x : Bool) → false ≡ (x && false)
never true = refl
never false = refl

joined_steady : (t u : Text) → is_steady (Some (t ++ u)) ≡ (is_steady (Some t) && is_steady (Some u))
unfolding is_steady
joined_steady t u = ap not (list_any-append separates_numbers t u) ∙ apart (list_any separates_numbers t) (list_any separates_numbers u)

both_steady : (x y : Option Text) → steady_static (both_texts x y) ≡ (steady_static x && steady_static y)
unfolding steady_static
both_steady None y = refl
both_steady (Some t) None = never (is_steady (Some t))
both_steady (Some t) (Some u) = joined_steady t u

parts_listed : (b : List ℕ) (ps : List Part) → steady_static (parts_text b ps) ≡ list_all (part_steady b) ps
unfolding parts_text part_steady steady_static is_steady
parts_listed b [] = refl
parts_listed b (x ∷ xs) = both_steady (part_text b x) (parts_text b xs) ∙ ap (λ t. part_steady b x && t) (parts_listed b xs)

-- escapes

escape_separates : (c : ℕ) → separates_numbers (escape_of c) ≡ separates_numbers c
unfolding escape_of
escape_separates c = grind (arith, nat_tests)

pair_separates : (c d : ℕ) (cs t u : Text) → list_any separates_numbers t ≡ list_any separates_numbers cs
    → list_any separates_numbers u ≡ (separates_numbers d || list_any separates_numbers cs)
    → list_any separates_numbers (if c == 92 then escape_of d ∷ t else c ∷ u) ≡ (separates_numbers c || (separates_numbers d || list_any separates_numbers cs))
pair_separates c d cs t u h k = ⊎_elim
    (λ is.
    let rest = separates_numbers d || list_any separates_numbers cs in
    let backslash : separates_numbers c ≡ false = ap separates_numbers (eqb-true c 92 is) in
    ap (list_any separates_numbers) (cond-true _ _ _ is) ∙ ap₂ (λ x y. x || y) (escape_separates d) h ∙ sym (ap (λ x. x || rest) backslash))
    (λ other. ap (list_any separates_numbers) (cond-false _ _ _ other) ∙ ap (λ y. separates_numbers c || y) k)
    (cases_Bool (c == 92))

escaped_separates : (t : Text) → list_any separates_numbers (escaped t) ≡ list_any separates_numbers t
unfolding escaped
escaped_separates [] = refl
escaped_separates (c ∷ []) = refl
escaped_separates (c ∷ d ∷ cs) = pair_separates c d cs (escaped cs) (escaped (d ∷ cs)) (escaped_separates cs) (escaped_separates (d ∷ cs))

pub escaped_steady : (t : Text) → is_steady (Some (escaped t)) ≡ is_steady (Some t)
unfolding is_steady
escaped_steady t = ap not (escaped_separates t)

-- plain bytes at the front

front_text : (t : Text) (w : p.Word) → steady_static (word_text (before_word t w)) ≡ (is_steady (Some t) && steady_static (word_text w))
unfolding before_word words.part_text is_steady steady_static
front_text [] w = refl
front_text (c ∷ cs) w = both_steady (Some (c ∷ cs)) (word_text w)

front_has : (f : ℕ → Bool) (t : Text) (w : p.Word) → word_has f (before_word t w) ≡ (list_any f t || word_has f w)
unfolding before_word word_has words.part_has
front_has f [] w = refl
front_has f (c ∷ cs) w = refl

front_bracket : (b : List ℕ) (t : Text) (ps : List Part) → is_plainly (91 ∷ []) (before_word t (parts_from b ps)) ≡ value_is_bracket b t ps
unfolding before_word is_plainly value_is_bracket parts_from
front_bracket b [] ps = lone_bracket_of_parts b ps
front_bracket b (c ∷ cs) [] = refl
front_bracket b (c ∷ cs) (x ∷ ps) = refl

front_pattern : (b : List ℕ) (t : Text) (ps : List Part) → words.is_pattern (before_word t (parts_from b ps)) ≡ value_is_pattern b t ps
unfolding words.is_pattern value_is_pattern
front_pattern b t ps =
    rw (front_has is_wildcard t (parts_from b ps), front_has (λ c. c == 91) t (parts_from b ps), wildcard_of_parts b ps, bracket_of_parts b ps, front_bracket b t ps) refl

by_pattern : (x : Bool) (o : Option Text) → unwrap_or (option_map (λ t. is_steady (Some t)) (cond x None o)) false ≡ (not x && steady_static o)
unfolding steady_static
by_pattern true o = refl
by_pattern false None = refl
by_pattern false (Some t) = refl

pub value_whole : (b : List ℕ) (t : Text) (ps : List Part)
    → steady_value (before_word t (parts_from b ps)) ≡ (not (value_is_pattern b t ps) && (is_steady (Some t) && list_all (part_steady b) ps))
unfolding steady_value static_of
value_whole b t ps =
    by_pattern (words.is_pattern (before_word t (parts_from b ps))) (word_text (before_word t (parts_from b ps)))
    ∙ ap₂ (λ x y. not x && y) (front_pattern b t ps)
    (front_text t (parts_from b ps) ∙ ap (λ y. is_steady (Some t) && y) (ap steady_static (text_of_parts b ps) ∙ parts_listed b ps))

-- parts

pub part_steady-Double : (b : List ℕ) (s : Span) (ps : List Part) → part_steady b (part.Double s ps) ≡ list_all (part_steady b) ps
unfolding part_steady
part_steady-Double b s ps = ap steady_static (part_text-Double b s ps) ∙ parts_listed b ps

pub part_steady-Plain : (b : List ℕ) (s : Span) → part_steady b (part.Plain s) ≡ is_steady (Some (text_of b s))
unfolding part_steady part_text steady_static
part_steady-Plain b s = refl

pub part_steady-Escaped : (b : List ℕ) (s : Span) → part_steady b (part.Escaped s) ≡ is_steady (Some (behind_first (text_of b s)))
unfolding part_steady part_text steady_static
part_steady-Escaped b s = refl

pub part_steady-Single : (b : List ℕ) (style : SingleStyle) (s : Span) → part_steady b (part.Single style s) ≡ is_steady (Some (single_text style (text_of b s)))
unfolding part_steady part_text steady_static
part_steady-Single b style s = refl

pub part_steady-Joined : (b : List ℕ) (s : Span) → part_steady b (part.Joined s) ≡ true
unfolding part_steady part_text steady_static is_steady
part_steady-Joined b s = refl

pub part_steady-Param : (b : List ℕ) (x : Param) → part_steady b (part.Param x) ≡ false
unfolding part_steady part_text steady_static
part_steady-Param b x = refl

pub part_steady-Arith : (b : List ℕ) (s : Span) (e : Expr) → part_steady b (part.Arith s e) ≡ false
unfolding part_steady part_text steady_static
part_steady-Arith b s e = refl

pub part_steady-Command : (b : List ℕ) (style : CommandStyle) (s : Span) (t : Script) → part_steady b (part.Command style s t) ≡ false
unfolding part_steady part_text steady_static
part_steady-Command b style s t = refl

pub part_steady-Tilde : (b : List ℕ) (s : Span) → part_steady b (part.Tilde s) ≡ false
unfolding part_steady part_text steady_static
part_steady-Tilde b s = refl

pub ruleset steady_parts = (part_steady-Double, part_steady-Plain, part_steady-Escaped, part_steady-Single, part_steady-Joined, part_steady-Param, part_steady-Arith, part_steady-Command, part_steady-Tilde)
