-- Texts that are put together piece by piece.
use Rattle.std.proofs.Common.{◌≡◌, ℕ, List, ◌++◌, sym, ap, ◌∙◌, append_assoc}

-- the words, the name after them, and the ending
pub rule_done : (out a b new words name ending whole : List ℕ) → a ≡ out ++ words → b ≡ a ++ name → new ≡ b ++ ending
    → whole ≡ words ++ name → new ≡ out ++ (whole ++ ending)
rule_done out a b new words name ending whole first second third both =
    third ∙ ap (λ l. l ++ ending) (second ∙ ap (λ l. l ++ name) first ∙ append_assoc out words name ∙ ap (λ l. out ++ l) (sym both))
    ∙ append_assoc out whole ending
