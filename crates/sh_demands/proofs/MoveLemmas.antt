-- A command that changes the positional parameters, by the static texts of its words.
use Rattle.std.proofs.Common.{◌≡◌, ℕ, suc, Bool, true, false, not, ◌&&◌, if◌then◌else◌, List, [], ◌∷◌, map, Option, Some, None, is_some, option_map, refl, sym, ◌∙◌, true≢false}
use Rattle.sh_tree.specs.declared.known.KnownName.TheVariants as known
use Rattle.sh_tree.specs.standard.program.Syntax.{Text, Word}
use Rattle.sh_tree.specs.standard.program.Words.{static_of}
use Rattle.sh_runs.specs.declared.kind.Kind.{Kind}
use Rattle.sh_runs.specs.declared.kind.Kind.TheVariants as kind
use Rattle.sh_runs.specs.standard.Kinds.{kind_of}
use Rattle.sh_runs.specs.standard.runs.Environment.{is_one_of}
use Rattle.sh_runs.specs.standard.runs.Operands.{ends_options, is_set_option, ends_in_o}
use Rattle.sh_domain.specs.Demands.{kind_moves, moves, command_moves}
use Rattle.sh_domain.specs.Operands.{words_from}
use Rattle.sh_domain.specs.Table.{Utility, Call, operands, is_special, manner_of_name, manner_of_words}
use Rattle.sh_operands.specs.Texts.{positional_at}
use Rattle.sh_demands.specs.Moves.{MovesTell, kind_moves_by, moves_by}

mapped : (i : Option ℕ) → is_some (option_map suc i) ≡ is_some i
mapped None = refl
mapped (Some i) = refl

choice : {A : Type 0} (a b : Bool) (x y : A) (i : Option ℕ) (o : Option A) → is_some i ≡ is_some o
    → is_some (if a then Some 1 else (if b then option_map suc i else Some 0)) ≡ is_some (if a then Some x else (if b then o else Some y))
choice true b x y i o h = refl
choice false true x y i o h = mapped i ∙ h
choice false false x y i o h = refl

positional : (takes : Bool) (ws : List Word) → is_some (positional_at takes (map static_of ws)) ≡ is_some (words_from takes ws)
unfolding positional_at words_from
positional true [] = refl
positional false [] = refl
positional true (w ∷ ws) = mapped (positional_at false (map static_of ws)) ∙ positional false ws
positional false (w ∷ ws) = go (λ takes. positional takes ws) (static_of w) refl
  where
    go : ((takes : Bool) → is_some (positional_at takes (map static_of ws)) ≡ is_some (words_from takes ws)) → (x : Option Text) → static_of w ≡ x
        → is_some (positional_at false (map static_of (w ∷ ws))) ≡ is_some (words_from false (w ∷ ws))
    go h None e = rw e refl
    go h (Some t) e = rw e (choice (ends_options t) (is_set_option t) ws (w ∷ ws) (positional_at (ends_in_o t) (map static_of ws)) (words_from (ends_in_o t) ws) (h (ends_in_o t)))

kind_same : (k : Kind) (ws : List Word) → kind_moves_by k (map static_of ws) ≡ kind_moves k ws
unfolding kind_moves_by kind_moves
kind_same (kind.Special known.Shift) ws = refl
kind_same (kind.Special known.Set) ws = positional false ws
kind_same _ ws = refl

not_special : (k : Kind) (ws : List Word) → is_special k ≡ false → kind_moves_by k (map static_of ws) ≡ false
unfolding kind_moves_by is_special
not_special (kind.Special name) ws h = absurd (true≢false h)
not_special _ ws h = refl

unless_special : (a s : Bool) → (a && not s) ≡ true → s ≡ false
unless_special true false h = refl
unless_special true true h = absurd (true≢false (sym h))
unless_special false s h = absurd (true≢false (sym h))

of_words : (functions : List Text) (ws : List Word) → moves_by (map static_of ws) ≡ moves (manner_of_words functions ws)
unfolding moves_by moves manner_of_words manner_of_name kind_moves
of_words functions [] = refl
of_words functions (w ∷ ws) = go (static_of w) refl
  where
    called : (t : Text) (x : Bool) → (is_one_of functions t && not (is_special (kind_of t))) ≡ x
        → kind_moves_by (kind_of t) (map static_of ws) ≡ moves (if x then Call t ws else Utility (kind_of t) ws)
    called t true e = not_special (kind_of t) ws (unless_special (is_one_of functions t) (is_special (kind_of t)) e)
    called t false e = kind_same (kind_of t) ws

    go : (x : Option Text) → static_of w ≡ x → moves_by (map static_of (w ∷ ws)) ≡ moves (manner_of_words functions (w ∷ ws))
    go None e = rw e refl
    go (Some t) e = rw e (called t (is_one_of functions t && not (is_special (kind_of t))) refl)

pub moves_tell : MovesTell
unfolding command_moves
moves_tell = record { moves = λ functions es. of_words functions (operands es) }
