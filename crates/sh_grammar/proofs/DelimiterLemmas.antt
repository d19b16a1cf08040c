-- Delimiters of here-documents.
use Rattle.std.proofs.Common.{◌≡◌, Bool, true, false, not, ◌&&◌, cond, ◌<◌, List, length, Option, Some, None, ℕ, refl, sym, ap, ◌∙◌}
use Rattle.std.specs.List.{list_any}
use Rattle.std.proofs.lemmas.Bool.{and_right, cond-true, cond-false}
use Rattle.sh_tree.specs.standard.Tree.{text_of}
use Rattle.sh_tree.specs.standard.Words.{parts_text}
use Rattle.sh_tree.specs.declared.tree.Word.{Word}
use Rattle.sh_tree.specs.standard.language.Bytes.{is_newline}
use Rattle.sh_tree.specs.standard.language.HereDocuments.{is_delimiter, is_dollar_quoted, delimiter_of, is_static, or_none}
use Rattle.sh_tree.specs.standard.language.States as states
use Rattle.sh_tree.specs.declared.refusal.Form.TheVariants as form
use Rattle.sh_tree.specs.declared.refusal.Refusal.TheVariants.{LeftOut}
use Rattle.sh_grammar.specs.Delimiters.{DelimiterIn, delimiter_in}
use Rattle.sh_grammar.specs.Readers.{Refused}

-- a newline is in the word
pub delimiter_split : (b : List ℕ) (w : Word) → true ≡ list_any is_newline (text_of b w.span) → None ≡ delimiter_in b w
unfolding is_delimiter
delimiter_split b w line =
    let none : ((is_static (parts_text b w.parts) && not (list_any is_dollar_quoted w.parts)) && not (list_any is_newline (text_of b w.span))) ≡ false =
    and_right (is_static (parts_text b w.parts) && not (list_any is_dollar_quoted w.parts)) _ (ap not (sym line)) in
    sym (cond-false _ _ _ none)

-- `$'` is in it
pub delimiter_dollar : (b : List ℕ) (w : Word) → true ≡ list_any is_dollar_quoted w.parts → None ≡ delimiter_in b w
unfolding is_delimiter
delimiter_dollar b w dollar =
    let none : ((is_static (parts_text b w.parts) && not (list_any is_dollar_quoted w.parts)) && not (list_any is_newline (text_of b w.span))) ≡ false =
    ap (λ q. q && not (list_any is_newline (text_of b w.span))) (and_right (is_static (parts_text b w.parts)) _ (ap not (sym dollar))) in
    sym (cond-false _ _ _ none)

-- neither does
pub delimiter_whole : (b : List ℕ) (w : Word) (o : Option (List ℕ)) → false ≡ list_any is_newline (text_of b w.span) → false ≡ list_any is_dollar_quoted w.parts → o ≡ parts_text b w.parts → o ≡ delimiter_in b w
unfolding is_delimiter delimiter_of is_static
delimiter_whole b w o line dollar is = is ∙ go (parts_text b w.parts) refl
  where
    whole : Option (List ℕ) → Bool
    whole q = (is_static q && not (list_any is_dollar_quoted w.parts)) && not (list_any is_newline (text_of b w.span))

    go : (p : Option (List ℕ)) → parts_text b w.parts ≡ p → p ≡ delimiter_in b w
    go None e = sym (cond-false _ _ _ (ap whole e))
    go (Some t) e =
        let all : is_delimiter b w ≡ true = ap whole e ∙ ap (λ d. not d && not (list_any is_newline (text_of b w.span))) (sym dollar) ∙ ap not (sym line) in
        ap Some (ap or_none (sym e)) ∙ sym (cond-true _ _ _ all)

-- what is reported of the word
go_delimiter : (b : List ℕ) (w : Word) (t : Bool) (d : List ℕ) → is_delimiter b w ≡ t → Some d ≡ cond t (Some (delimiter_of b w)) None → (is_delimiter b w ≡ true) × (delimiter_of b w ≡ d)
go_delimiter b w true d is h = (is, cc)
go_delimiter b w false d is h = cc

pub delimiter_is : (b : List ℕ) (w : Word) (d : List ℕ) → Some d ≡ delimiter_in b w → (is_delimiter b w ≡ true) × (delimiter_of b w ≡ d)
delimiter_is b w d h = go_delimiter b w (is_delimiter b w) d refl h

no_delimiter : (b : List ℕ) (w : Word) → None ≡ delimiter_in b w → (limit : ℕ) (k : states.State) (x : Unit {0}) → DelimiterIn b w limit k x → ⊥
no_delimiter b w h limit k x is = let whole : delimiter_in b w ≡ Some (delimiter_of b w) = cond-true _ _ _ is in let wrong : None ≡ Some (delimiter_of b w) = h ∙ whole in cc

pub not_delimiter : (b : List ℕ) (w : Word) → w.span.start < length b → None ≡ delimiter_in b w → Refused b (DelimiterIn b w) (LeftOut form.HereWord w.span.start)
not_delimiter b w inside h = (inside, no_delimiter b w h)
