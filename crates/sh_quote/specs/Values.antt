-- Clauses of private functions: a value, by some plain bytes at its front and the parts after them.
-- POSIX.1-2024, XCU 2.2 (quoting), 2.6.5 (field splitting).
use Rattle.std.specs.Prelude.{ℕ, ◌==◌, Bool, false, not, ◌&&◌, ◌||◌, List, [], ◌∷◌, Option, Some, None}
use Rattle.std.specs.List.{list_any}
use Rattle.std.specs.Str.{bytes_eq}
use Rattle.sh_tree.specs.declared.tree.Part.{Part}
use Rattle.sh_tree.specs.standard.Words.{is_wildcard, has_wildcard, has_bracket, is_bracket, part_text}
use Rattle.sh_tree.specs.standard.language.Bytes.{is_digit}
use Rattle.sh_tree.specs.standard.program.Syntax.{Text}
use Rattle.sh_runs.specs.Quoting.{is_steady}

abbrev pub separates_numbers : ℕ → Bool
separates_numbers c = is_digit c || c == 45

-- static, and separates no numbers
unfoldable pub steady_static : Option Text → Bool
steady_static None = false
steady_static (Some t) = is_steady (Some t)

unfoldable pub part_steady : List ℕ → Part → Bool
part_steady b x = steady_static (part_text b x)

unfoldable pub value_is_bracket : List ℕ → Text → List Part → Bool
value_is_bracket b [] ps = is_bracket b ps
value_is_bracket b (c ∷ cs) [] = bytes_eq (c ∷ cs) (91 ∷ [])
value_is_bracket b (c ∷ cs) (x ∷ ps) = false

unfoldable pub value_is_pattern : List ℕ → Text → List Part → Bool
value_is_pattern b t ps =
    (list_any is_wildcard t || list_any (has_wildcard b) ps)
    || ((list_any (λ c. c == 91) t || list_any (has_bracket b) ps) && not (value_is_bracket b t ps))
