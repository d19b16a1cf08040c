-- The program of the words of a simple command.
use Rattle.std.proofs.Common.{◌≡◌, ℕ, List, [], ◌∷◌, refl}
use Rattle.sh_tree.specs.declared.tree.Element.{Element, Assignment', Word', Redirection'}
use Rattle.sh_tree.specs.standard.Words.{form_of, word_in, words_of}
use Rattle.sh_tree.specs.Lists.{words_from, element_from, elements_from}
use Rattle.sh_tree.specs.standard.program.Words as words
use Rattle.sh_tree.proofs.ProgramRules.{parts_listed}

pub operands_of_elements : (b : List ℕ) (es : List Element) → words.operands_in (elements_from b es) ≡ words_from b (words_of es)
unfolding words.operands_in elements_from element_from words_from form_of word_in
operands_of_elements b [] = refl
operands_of_elements b (Assignment' n t shape row ∷ es) = operands_of_elements b es
operands_of_elements b (Word' t shape row ∷ es) = rw (parts_listed b row, operands_of_elements b es) refl
operands_of_elements b (Redirection' at n t ∷ es) = operands_of_elements b es
