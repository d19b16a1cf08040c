-- The name of a command, element by element.
use Rattle.std.proofs.Common.{◌≡◌, ℕ, ◌+◌, ◌<◌, Some, None, List, length, get_or, drop, refl, ap, add-one, drop-cons, slice_get}
use Rattle.sh_tree.specs.declared.tree.Element.{Element}
use Rattle.sh_tree.specs.declared.tree.Element.TheVariants as element
use Rattle.sh_tree.specs.declared.tree.Span.{Span}
use Rattle.sh_tree.specs.declared.tree.Word.{Word}
use Rattle.sh_tree.specs.declared.tree.Redirect.{Redirect}
use Rattle.sh_tree.specs.standard.Words.{words_of, form_of_assignment, form_of_word, form_of_redirection, word_in, word_of}

pub word_of-Assignment : (s : Span) (w : Word) → word_of (element.Assignment s w) ≡ None
unfolding word_in
word_of-Assignment s w = ap word_in (form_of_assignment s w)

pub word_of-Word : (w : Word) → word_of (element.Word w) ≡ Some w
unfolding word_in
word_of-Word w = ap word_in (form_of_word w)

pub word_of-Redirection : (r : Redirect) → word_of (element.Redirection r) ≡ None
unfolding word_in
word_of-Redirection r = ap word_in (form_of_redirection r)

pub ruleset word_in_element = (word_of-Assignment, word_of-Word, word_of-Redirection)

pub name_at_word : (es : List Element) (i : ℕ) (e : Element) (w : Word) → i < length es → e ≡ get_or es i e → Some w ≡ word_of e
    → slice_get (words_of (drop i es)) 0 ≡ Some w
name_at_word es i e w h is v = rw (drop-cons es i e, ← is, ← v) refl

pub name_past : (es : List Element) (i : ℕ) (e : Element) → i < length es → e ≡ get_or es i e → None ≡ word_of e
    → words_of (drop i es) ≡ words_of (drop (i + 1) es)
name_past es i e h is v = rw (drop-cons es i e, add-one, ← is, ← v) refl
