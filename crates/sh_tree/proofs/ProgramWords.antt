-- What is read off the program of a word is what is read off its tree.
use Rattle.std.proofs.Common.{◌≡◌, ◌==◌, ℕ, List, [], ◌∷◌, refl}
use Rattle.std.specs.List.{list_any}
use Rattle.sh_tree.specs.declared.tree.Part.{Part, Plain, Escaped, Single, Double', Param', Arith', Tilde, Joined, Row_of-Part, end_of-Part, more_of-Part}
use Rattle.sh_tree.specs.declared.tree.Part.TheVariants as part
use Rattle.sh_tree.specs.standard.Words.{is_wildcard, part_text, row_text, parts_text, has_wildcard, has_bracket, is_bracket, is_pattern, static_text}
use Rattle.sh_tree.specs.Lists.{parts_from}
use Rattle.sh_tree.specs.standard.program.Trees.{part_of, word_of}
use Rattle.sh_tree.specs.standard.program.Words as words

-- the text without quoting

mutual
  unfolding part_of part_text words.part_text

  pub text_of_part : (b : List ℕ) (x : Part) → words.part_text (part_of b x) ≡ part_text b x
  text_of_part b (Plain s) = refl
  text_of_part b (Escaped s) = refl
  text_of_part b (Single style s) = refl
  text_of_part b (Double' s shape row) = text_of_row b row
  text_of_part b (Param' s subject operator) = refl
  text_of_part b (Arith' s shape row) = refl
  text_of_part b (part.Command style s t) = refl
  text_of_part b (Tilde s) = refl
  text_of_part b (Joined s) = refl

  text_of_row : {m : _} (b : List ℕ) (k : Row_of-Part m) → words.word_text (word_of b k) ≡ row_text b k
  text_of_row b end_of-Part = refl
  text_of_row b (more_of-Part x rest) = rw (text_of_part b x, text_of_row b rest) refl

pub text_of_parts : (b : List ℕ) (ps : List Part) → words.word_text (parts_from b ps) ≡ parts_text b ps
unfolding parts_from parts_text words.part_text
text_of_parts b [] = refl
text_of_parts b (x ∷ xs) = rw (text_of_part b x, text_of_parts b xs) refl

-- unquoted bytes of a pattern

wildcard_of_part : (b : List ℕ) (x : Part) → words.part_has is_wildcard (part_of b x) ≡ has_wildcard b x
unfolding part_of words.part_has has_wildcard
wildcard_of_part b (Plain s) = refl
wildcard_of_part b x = refl

bracket_of_part : (b : List ℕ) (x : Part) → words.part_has (λ c. c == 91) (part_of b x) ≡ has_bracket b x
unfolding part_of words.part_has has_bracket
bracket_of_part b (Plain s) = refl
bracket_of_part b x = refl

pub wildcard_of_parts : (b : List ℕ) (ps : List Part) → words.word_has is_wildcard (parts_from b ps) ≡ list_any (has_wildcard b) ps
unfolding parts_from words.word_has
wildcard_of_parts b [] = refl
wildcard_of_parts b (x ∷ xs) = rw (wildcard_of_part b x, wildcard_of_parts b xs) refl

pub bracket_of_parts : (b : List ℕ) (ps : List Part) → words.word_has (λ c. c == 91) (parts_from b ps) ≡ list_any (has_bracket b) ps
unfolding parts_from words.word_has
bracket_of_parts b [] = refl
bracket_of_parts b (x ∷ xs) = rw (bracket_of_part b x, bracket_of_parts b xs) refl

pub lone_bracket_of_parts : (b : List ℕ) (ps : List Part) → words.is_plainly (91 ∷ []) (parts_from b ps) ≡ is_bracket b ps
unfolding part_of parts_from words.is_plainly is_bracket
lone_bracket_of_parts b [] = refl
lone_bracket_of_parts b (Plain s ∷ []) = refl
lone_bracket_of_parts b (Plain s ∷ y ∷ ys) = refl
lone_bracket_of_parts b (x ∷ xs) = refl

pub pattern_of_parts : (b : List ℕ) (ps : List Part) → words.is_pattern (parts_from b ps) ≡ is_pattern b ps
unfolding words.is_pattern is_pattern
pattern_of_parts b ps = rw (wildcard_of_parts b ps, bracket_of_parts b ps, lone_bracket_of_parts b ps) refl

pub static_of_parts : (b : List ℕ) (ps : List Part) → words.static_of (parts_from b ps) ≡ static_text b ps
unfolding words.static_of static_text
static_of_parts b ps = rw (pattern_of_parts b ps, text_of_parts b ps) refl
