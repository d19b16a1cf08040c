-- The static text of a word of plain bytes.
use Rattle.std.proofs.Common.{◌≡◌, ℕ, Bool, true, false, not, ◌&&◌, ◌||◌, ◌==◌, cond, map, List, [], ◌∷◌, ◌++◌, Option, Some, None, IfSome, refl, sym, ap, ◌∙◌, length, take, drop, zero, suc, ◌+◌, ◌-◌, ◌≤◌, arith, length-drop, length-take-le}
use Rattle.std.proofs.Math.Bool.{and-true, or-false}
use Rattle.std.proofs.lemmas.Slice.Eq.{bytes_eq-Decides}
use Rattle.std.proofs.lemmas.List.{append-nil, map-append, drop_all}
use Rattle.sh_tree.specs.declared.tree.Part.{Part, Plain, Escaped, Single, Double}
use Rattle.sh_tree.specs.declared.tree.SingleStyle.{SingleStyle}
use Rattle.sh_tree.specs.declared.tree.Span.{Span}
use Rattle.sh_tree.specs.standard.Tree.{text_of}
use Rattle.std.specs.List.{list_any, flat_map}
use Rattle.std.specs.Str.{bytes_eq}
use Rattle.sh_tree.specs.declared.tree.Element.{Element, Assignment', Word', Redirection'}
use Rattle.sh_tree.specs.declared.tree.Element.TheVariants as element
use Rattle.sh_tree.specs.declared.tree.Redirect.{Redirect}
use Rattle.sh_tree.specs.declared.tree.Word.{Word}
use Rattle.sh_tree.specs.Lists.{element_from, elements_from}
use Rattle.sh_tree.specs.standard.program.Syntax as p
use Rattle.sh_tree.specs.standard.program.Syntax.{Text}
use Rattle.sh_tree.specs.standard.program.Words.{operands_in, static_of, words_in}
use Rattle.sh_tree.proofs.ProgramRules as rules
use Rattle.sh_tree.proofs.ProgramWords.{static_of_parts}
use Rattle.sh_runs.specs.Sites.{Simple, statics}
use Rattle.sh_tree.specs.standard.Words.{static_text, is_wildcard, is_pattern, has_wildcard, has_bracket, is_bracket, parts_text, part_text, part_text-Double, single_text, behind_first, between_ends}
use Rattle.sh_table.specs.WordTexts.{may_match, has_pattern, plain_text, plain_span, lone_part, text_in, texts_of}
use Rattle.sh_runs.specs.Profile.{Static}
use Rattle.sh_table.specs.declared.word_text.WordText.{WordText}

-- a byte is a wildcard or a bracket

crossed : (a b c d : Bool) → ((a || b) || (c || d)) ≡ ((a || c) || (b || d))
crossed true b c d = refl
crossed false true true d = refl
crossed false true false d = refl
crossed false false c d = refl

some_may_match : (t : Text) → list_any may_match t ≡ (list_any is_wildcard t || list_any (λ c. c == 91) t)
unfolding may_match
some_may_match [] = refl
some_may_match (c ∷ cs) = rw (some_may_match cs) (crossed (is_wildcard c) (c == 91) (list_any is_wildcard cs) (list_any (λ d. d == 91) cs))

-- the two tests agree on a text that is no bracket alone, and on that one
has_pattern_is : (t : Text) → (list_any is_wildcard t || (list_any (λ c. c == 91) t && not (bytes_eq t (91 ∷ [])))) ≡ has_pattern t
unfolding has_pattern may_match
has_pattern_is t = go (bytes_eq t (91 ∷ [])) refl
  where
    go : (alone : Bool) → bytes_eq t (91 ∷ []) ≡ alone
        → (list_any is_wildcard t || (list_any (λ c. c == 91) t && not (bytes_eq t (91 ∷ [])))) ≡ (list_any may_match t && not (bytes_eq t (91 ∷ [])))
    go true e = let same : t ≡ 91 ∷ [] = (bytes_eq-Decides t (91 ∷ [])).0 e in rw same refl
    go false e = rw (e, some_may_match t, and-true (list_any (λ c. c == 91) t)) (sym (and-true (list_any is_wildcard t || list_any (λ c. c == 91) t)))

plain_alone : (t : Text) → cond ((list_any is_wildcard t || false) || ((list_any (λ c. c == 91) t || false) && not (bytes_eq t (91 ∷ [])))) None (Some (t ++ [])) ≡ cond (has_pattern t) None (Some t)
plain_alone t = rw (or-false (list_any is_wildcard t), or-false (list_any (λ c. c == 91) t), append-nil t, has_pattern_is t) refl

pub plain_static : (b : List ℕ) (s : Span) → static_text b (Plain s ∷ []) ≡ plain_text b s
unfolding static_text is_pattern has_wildcard has_bracket is_bracket parts_text part_text
plain_static b s = plain_alone (text_of b s)

-- the texts of an element

pub texts_of-Assignment : (b : List ℕ) (s : Span) (w : Word) → texts_of b (element.Assignment s w) ≡ []
unfolding texts_of operands_in words_in
texts_of-Assignment b s w = ap (λ e. map static_of (words_in (operands_in e))) (rules.element_from-Assignment b s w p.no_elements)

pub texts_of-Word : (b : List ℕ) (w : Word) → texts_of b (element.Word w) ≡ static_text b w.parts ∷ []
unfolding texts_of operands_in words_in
texts_of-Word b w = ap (λ e. map static_of (words_in (operands_in e))) (rules.element_from-Word b w p.no_elements) ∙ ap (λ t. t ∷ []) (static_of_parts b w.parts)

pub texts_of-Redirection : (b : List ℕ) (r : Redirect) → texts_of b (element.Redirection r) ≡ []
unfolding texts_of operands_in words_in
texts_of-Redirection b r = ap (λ e. map static_of (words_in (operands_in e))) (rules.element_from-Redirection b r p.no_elements)

pub ruleset element_texts = (texts_of-Assignment, texts_of-Word, texts_of-Redirection)

first_text : (b : List ℕ) (e : Element) (rest : p.Elements)
    → map static_of (words_in (operands_in (element_from b e rest))) ≡ texts_of b e ++ map static_of (words_in (operands_in rest))
unfolding texts_of operands_in words_in element_from
first_text b (Assignment' name s shape row) rest = refl
first_text b (Word' s shape row) rest = refl
first_text b (Redirection' at number target) rest = refl

pub texts_listed : (b : List ℕ) (es : List Element) → statics (Simple (operands_in (elements_from b es))) ≡ flat_map (texts_of b) es
unfolding statics elements_from operands_in words_in
texts_listed b [] = refl
texts_listed b (e ∷ es) = first_text b e (elements_from b es) ∙ ap (λ l. texts_of b e ++ l) (texts_listed b es)

-- what is added to the texts

pub no_text : (found more : List Static) → more ≡ [] → found ≡ found ++ more
no_text found more e = sym (append-nil found) ∙ ap (λ xs. found ++ xs) (sym e)

pub text_pushed : (b : List ℕ) (found more : List WordText) (t : WordText) (s : Static) (whole : List Static) → more ≡ found ++ t ∷ [] → text_in b t ≡ s → whole ≡ s ∷ []
    → map (text_in b) more ≡ map (text_in b) found ++ whole
text_pushed b found more t s whole p k w = ap (map (text_in b)) p ∙ map-append (text_in b) found (t ∷ []) ∙ ap (λ x. map (text_in b) found ++ x ∷ []) k ∙ ap (λ l. map (text_in b) found ++ l) (sym w)

pub texts_end : (b : List ℕ) (es : List Element) (i : ℕ) (found : List Static) → length es ≤ i → found ++ flat_map (texts_of b) (drop i es) ≡ flat_map (texts_of b) es
    → found ≡ statics (Simple (operands_in (elements_from b es)))
texts_end b es i found h e =
    let none : drop i es ≡ [] = drop_all i es h in
    let left : found ++ [] ≡ flat_map (texts_of b) es = rw none at e in
    sym (append-nil found) ∙ left ∙ sym (texts_listed b es)

-- a word of plain bytes alone
pub plain_in : (b : List ℕ) (ps : List Part) (s : Span) → Some s ≡ plain_span ps → plain_text b s ≡ static_text b ps
unfolding plain_span
plain_in b [] s e = cc
plain_in b (Plain t ∷ []) s e = let same : s ≡ t = cc in rw same (sym (plain_static b t))
plain_in b (Plain t ∷ y ∷ ys) s e = cc
plain_in b (x ∷ xs) s e = cc

-- a word that is one quotation

drop_one_more : (s : ℕ) (b : List ℕ) → drop 1 (drop s b) ≡ drop (s + 1) b
drop_one_more zero b = refl
drop_one_more (suc s) [] = let e : suc s + 1 ≡ suc (s + 1) = omega arith in rw e refl
drop_one_more (suc s) (x ∷ xs) = let e : suc s + 1 ≡ suc (s + 1) = omega arith in rw e (drop_one_more s xs)

take_none : (n : ℕ) → take {A = ℕ} n [] ≡ []
take_none zero = refl
take_none (suc n) = refl

behind_taken : (n : ℕ) (xs : List ℕ) → drop 1 (take n xs) ≡ take (n - 1) (drop 1 xs)
behind_taken zero xs = refl
behind_taken (suc n) [] = let e : suc n - 1 ≡ n = omega arith in rw e (sym (take_none n))
behind_taken (suc n) (x ∷ xs) = let e : suc n - 1 ≡ n = omega arith in rw e refl

take_less : (m n : ℕ) (xs : List ℕ) → m ≤ n → take m (take n xs) ≡ take m xs
take_less zero n xs h = refl
take_less (suc m) zero xs h = absurd (omega (arith, h))
take_less (suc m) (suc n) [] h = refl
take_less (suc m) (suc n) (x ∷ xs) h = ap (λ ys. x ∷ ys) (take_less m n xs (omega (arith, h)))

range_behind : (b : List ℕ) (s e : ℕ) → take (e - (s + 1)) (drop (s + 1) b) ≡ drop 1 (take (e - s) (drop s b))
range_behind b s e =
    let less : e - s - 1 ≡ e - (s + 1) = omega arith in
    sym (behind_taken (e - s) (drop s b) ∙ rw less (ap (take (e - (s + 1))) (drop_one_more s b)))

pub text_behind_first : (b : List ℕ) (s t : Span) → t.start ≡ s.start + 1 → t.end ≡ s.end → text_of b t ≡ behind_first (text_of b s)
text_behind_first b s t k e = rw (k, e) (range_behind b s.start s.end)

pub text_between_ends : (b : List ℕ) (s t : Span) → s.end ≤ length b → t.start ≡ s.start + 1 → s.end ≡ t.end + 1 → text_of b t ≡ between_ends (text_of b s)
text_between_ends b s t l k e =
    let behind : length (drop s.start b) ≡ length b - s.start = length-drop s.start b in
    let size : length (text_of b s) ≡ s.end - s.start = length-take-le (s.end - s.start) (drop s.start b) (omega (arith, behind, l)) in
    let less : t.end - t.start ≡ s.end - s.start - 2 = omega (arith, k, e) in
    let fewer : s.end - s.start - 2 ≤ s.end - (s.start + 1) = omega arith in
    rw (less, k, size)
    (sym (take_less (s.end - s.start - 2) (s.end - (s.start + 1)) (drop (s.start + 1) b) fewer) ∙ ap (take (s.end - s.start - 2)) (range_behind b s.start s.end))

pub escaped_static : (b : List ℕ) (s : Span) → static_text b (Escaped s ∷ []) ≡ Some (behind_first (text_of b s))
unfolding static_text is_pattern has_wildcard has_bracket is_bracket parts_text part_text
escaped_static b s = ap (λ t. Some t) (append-nil (behind_first (text_of b s)))

plain_text_of : (b : List ℕ) (ps : List Part) (t : Span) → Some t ≡ plain_span ps → parts_text b ps ≡ Some (text_of b t)
unfolding plain_span parts_text part_text
plain_text_of b [] t e = cc
plain_text_of b (Plain s ∷ []) t e = let same : t ≡ s = cc in rw same (ap (λ u. Some u) (append-nil (text_of b s)))
plain_text_of b (Plain s ∷ y ∷ ys) t e = cc
plain_text_of b (x ∷ xs) t e = cc

pub double_static : (b : List ℕ) (s t : Span) (ps : List Part) → Some t ≡ plain_span ps → static_text b (Double s ps ∷ []) ≡ Some (text_of b t)
unfolding static_text is_pattern has_wildcard has_bracket is_bracket parts_text
double_static b s t ps e = rw (part_text-Double b s ps, plain_text_of b ps t e) (ap (λ u. Some u) (append-nil (text_of b t)))

-- where the script has the text, if it has

pub double_some : (b : List ℕ) (s : Span) (ps : List Part) (o : Option Span) → o ≡ plain_span ps → IfSome o (λ t. static_text b (Double s ps ∷ []) ≡ Some (text_of b t))
double_some b s ps None e = tt
double_some b s ps (Some t) e = double_static b s t ps e

pub escaped_some : (b : List ℕ) (s : Span) (o : Option Span) → IfSome o (λ t. text_of b t ≡ behind_first (text_of b s)) → IfSome o (λ t. static_text b (Escaped s ∷ []) ≡ Some (text_of b t))
escaped_some b s None h = tt
escaped_some b s (Some t) h = escaped_static b s ∙ ap (λ u. Some u) (sym h)

pub single_some : (b : List ℕ) (style : SingleStyle) (s : Span) (o : Option Span) → IfSome o (λ t. text_of b t ≡ single_text style (text_of b s))
    → IfSome o (λ t. static_text b (Single style s ∷ []) ≡ Some (text_of b t))
unfolding static_text is_pattern has_wildcard has_bracket is_bracket parts_text part_text
single_some b style s None h = tt
single_some b style s (Some t) h = rw (append-nil, h) refl

pub lone_whole : (ps : List Part) (x : Part) → Some x ≡ lone_part ps → ps ≡ x ∷ []
unfolding lone_part
lone_whole [] x e = cc
lone_whole (y ∷ []) x e = let same : x ≡ y = cc in rw same refl
lone_whole (y ∷ z ∷ zs) x e = cc
