-- What a simple command requires and drops by the static texts of its words is what it requires and
-- drops by its words.
use Rattle.std.proofs.Common.{◌≡◌, ℕ, ◌-◌, ◌≤◌, nat_le, length, Bool, true, false, not, ◌&&◌, if◌then◌else◌, List, [], ◌∷◌, drop, filter, map, codes, Option, Some, None, option_map, inl, inr, refl, sym, ap, ◌∙◌, arith}
use Rattle.std.proofs.lemmas.Bool.{cases_Bool, cases_lt, leb-true}
use Rattle.sh_tree.specs.declared.known.KnownName.TheVariants as known
use Rattle.sh_tree.specs.standard.program.Syntax as p
use Rattle.sh_tree.specs.standard.program.Syntax.{Text, Word}
use Rattle.sh_tree.specs.standard.program.Words.{static_of}
use Rattle.sh_runs.specs.standard.Kinds.{kind_of}
use Rattle.sh_runs.specs.Profile.{Static}
use Rattle.sh_runs.specs.declared.kind.Kind.{Kind}
use Rattle.sh_runs.specs.declared.kind.Kind.TheVariants as kind
use Rattle.sh_runs.specs.standard.runs.Environment.{is_one_of}
use Rattle.sh_domain.specs.declared.rule.FlowRule.TheVariants.{F4}
use Rattle.sh_domain.specs.Entries.{Around}
use Rattle.sh_domain.specs.Facts.{Facts}
use Rattle.sh_domain.specs.Operands.{positional_words, first_number}
use Rattle.sh_domain.specs.Rules.{loop_at, jump_loop}
use Rattle.sh_domain.specs.Table as table
use Rattle.sh_domain.specs.Table.{Utility, operands, prefixes, manner, manner_of_words, manner_of_name, is_special}
use Rattle.sh_domain.specs.Views.{Lose}
use Rattle.sh_table.specs.Numerals.{most, capped}
use Rattle.sh_rules.specs.Asking.{Asking}
use Rattle.sh_rules.specs.Behind.{Behind, both, either}
use Rattle.sh_rules.specs.Bounds.{fault, leaves_told}
use Rattle.sh_rules.specs.CommandBounds.{loses_told, simple_drops_told, utility_drops_told}
use Rattle.sh_rules.specs.Losses.{variable_lost, free_names}
use Rattle.sh_rules.specs.Settings.{Setting}
use Rattle.sh_rules.specs.SimpleBounds.{stepped, behind, left, set_behind, shift_behind, utility_behind, nameless_behind, breaks_told, continues_told, returns_told, jumps_told, simple_told}
use Rattle.sh_rules.specs.TextBounds.{behind_name, redirected, settled, words_set, set_by, shifted_by, exec_by, true_by, unless_failed, nameless_by, special_by, utility_by}
use Rattle.sh_rules.specs.TextTells.{jumps_by, told_by, named_by, simple_by, utility_drops_by, call_drops_by, named_drops_by, drops_by, calls_by, TextsTell}
use Rattle.sh_rules.specs.Texts.{first_by}
use Rattle.sh_rules.proofs.OperandLemmas.{unset_words, read_words, getopts_words, positional_of_words, first_words, status_words, runs_words}

-- what is known after a utility

module _ (x : Setting) (k : Facts) (es : p.Elements) where
  abbrev ws : List Word
  ws = behind_name es

  abbrev ts : List Static
  ts = map static_of (behind_name es)

  abbrev by_words : Kind → Behind
  by_words kd = utility_behind x k (behind_name es) (left es) (prefixes es) (redirected es) kd

  set_same : (o : Option (List Word)) → set_by x k es o ≡ set_behind x k (behind_name es) (left es) (prefixes es) (redirected es) o
  unfolding set_by words_set set_behind
  set_same None = refl
  set_same (Some vs) = refl

  shift_same : (o : Option ℕ) → both (shifted_by x o (settled x k es)) ≡ shift_behind x k (behind_name es) (left es) (prefixes es) (redirected es) o
  unfolding shifted_by shift_behind
  shift_same None = refl
  shift_same (Some n) = refl

  pub utility_same : (kd : Kind) → utility_by x k ts es kd ≡ by_words kd
  unfolding utility_by special_by utility_behind exec_by true_by variable_lost
  utility_same (kind.Special known.Colon) = refl
  utility_same (kind.Special known.Export) = refl
  utility_same (kind.Special known.Readonly) = refl
  utility_same (kind.Special known.Unset) = ap (λ names. both (stepped x (Lose names) (settled x k es))) (unset_words ws)
  utility_same (kind.Special known.Set) = ap (set_by x k es) (positional_of_words ws) ∙ set_same (positional_words ws)
  utility_same (kind.Special known.Shift) = ap (λ o. both (shifted_by x o (settled x k es))) (first_words ws) ∙ shift_same (first_number ws)
  utility_same (kind.Special known.Exit) = refl
  utility_same (kind.Special known.Break) = refl
  utility_same (kind.Special known.Continue) = refl
  utility_same (kind.Special known.Return) = refl
  utility_same (kind.Special known.Exec) = ap (λ b. exec_by b (settled x k es)) (runs_words ws)
  utility_same (kind.Special known.Times) = refl
  utility_same (kind.Special known.Trap) = refl
  utility_same kind.True = refl
  utility_same kind.False = refl
  utility_same kind.Read = ap (λ names. either (free_names x es names k) k) (read_words ws)
  utility_same kind.Getopts = ap (λ names. either (variable_lost x (free_names x es names k) (codes "OPTARG")) (variable_lost x k (codes "OPTARG"))) (getopts_words ws)
  utility_same _ = refl

-- jumps

further : (m : ℕ) (l k : ℕ) (ls : List ℕ) → 2 ≤ m → loop_at m (l ∷ k ∷ ls) ≡ loop_at (m - 1) (k ∷ ls)
unfolding loop_at
further m l k ls h = ap (λ b. if b then Some l else loop_at (m - 1) (k ∷ ls)) (not_one m h)
  where
    not_one : (m : ℕ) → 2 ≤ m → nat_le m 1 ≡ false
    not_one m h = elim (cases_Bool (nat_le m 1)) [
      | inl t ↦ let le : m ≤ 1 = leb-true m 1 t in absurd (omega (arith, h, le))
      | inr f ↦ f
    ]

outermost : (m n : ℕ) (ls : List ℕ) → length ls ≤ m → length ls ≤ n → loop_at m ls ≡ loop_at n ls
unfolding loop_at
outermost m n [] a b = refl
outermost m n (l ∷ []) a b = refl
outermost m n (l ∷ k ∷ ls) a b =
    let m' : 2 ≤ m = omega (arith, a) in
    let n' : 2 ≤ n = omega (arith, b) in
    let a' : length (k ∷ ls) ≤ m - 1 = omega (arith, a) in
    let b' : length (k ∷ ls) ≤ n - 1 = omega (arith, b) in
    further m l k ls m' ∙ outermost (m - 1) (n - 1) (k ∷ ls) a' b' ∙ sym (further n l k ls n')

loop_capped : (m : ℕ) (ls : List ℕ) → length ls ≤ most → loop_at (capped m) ls ≡ loop_at m ls
loop_capped m ls h = elim (cases_lt m most) [
  | inl l ↦ let e : capped m ≡ m = omega (arith, l) in ap (λ n. loop_at n ls) e
  | inr g ↦ let c : length ls ≤ capped m = omega (arith, g, h) in let d : length ls ≤ m = omega (arith, g, h) in outermost (capped m) m ls c d
]

pub jump_capped : (o : Option ℕ) (ls : List ℕ) → length ls ≤ most → jump_loop (option_map capped o) ls ≡ jump_loop o ls
unfolding jump_loop
jump_capped None ls h = refl
jump_capped (Some m) ls h = loop_capped m ls h

module _ {K : Type 0} (a : Asking K) (x : Setting) (n : ℕ) where
  jumps_same : (k : Facts) (y : Around) (kd : Kind) (vs : List Word) (kept : K) → length y.loops ≤ most
      → jumps_by a x n k y kd (map static_of vs) kept ≡ jumps_told a x n k y kd vs kept
  unfolding jumps_by jumps_told
  jumps_same k y (kind.Special known.Break) vs kept h =
      ap (λ o. breaks_told a x n k o kept) (jump_capped (first_by (map static_of vs)) y.loops h ∙ ap (λ o. jump_loop o y.loops) (first_words vs))
  jumps_same k y (kind.Special known.Continue) vs kept h =
      ap (λ o. continues_told a x n k o kept) (jump_capped (first_by (map static_of vs)) y.loops h ∙ ap (λ o. jump_loop o y.loops) (first_words vs))
  jumps_same k y (kind.Special known.Return) vs kept h = ap (λ o. returns_told a x n k o y.function kept) (status_words vs)
  jumps_same k y _ vs kept h = refl

  told_same : (y : Around) (es : p.Elements) (kd : Kind) (kept : K) → length y.loops ≤ most
      → told_by a x n y es kd (map static_of (behind_name es)) kept ≡ simple_told a x n y es (Utility kd (behind_name es)) kept
  unfolding told_by simple_told
  told_same y es kd kept h =
      jumps_same (settled x (behind x n es) es) y kd (behind_name es) (leaves_told a x (fault n F4) (utility_by x (behind x n es) (map static_of (behind_name es)) es kd) kept) h
      ∙ ap (λ o. jumps_told a x n (settled x (behind x n es) es) y kd (behind_name es) (leaves_told a x (fault n F4) o kept)) (utility_same x (behind x n es) es kd)

  pub simple_same : (functions : List Text) (y : Around) (es : p.Elements) (kept : K) → length y.loops ≤ most
      → simple_by a x n y es (calls_by functions (map static_of (operands es))) (map static_of (operands es)) kept ≡ simple_told a x n y es (manner functions es) kept
  unfolding simple_by named_by calls_by simple_told manner_of_words manner_of_name nameless_by nameless_behind unless_failed
  simple_same functions y es kept h = go (operands es) refl
    where
      of_name : (w : Word) (vs : List Word) → operands es ≡ w ∷ vs → (t : Text) (b : Bool)
          → named_by a x n y es b t (map static_of vs) kept ≡ simple_told a x n y es (if b then table.Call t vs else Utility (kind_of t) vs) kept
      of_name w vs e t true = ap (λ us. simple_told a x n y es (table.Call t (drop 1 us)) kept) e
      of_name w vs e t false =
          ap (λ us. told_by a x n y es (kind_of t) (map static_of (drop 1 us)) kept) (sym e) ∙ told_same y es (kind_of t) kept h
          ∙ ap (λ us. simple_told a x n y es (Utility (kind_of t) (drop 1 us)) kept) e

      no_name : (w : Word) (vs : List Word) → operands es ≡ w ∷ vs → told_by a x n y es kind.Utility (map static_of vs) kept ≡ simple_told a x n y es (Utility kind.Utility vs) kept
      no_name w vs e =
          ap (λ us. told_by a x n y es kind.Utility (map static_of (drop 1 us)) kept) (sym e) ∙ told_same y es kind.Utility kept h
          ∙ ap (λ us. simple_told a x n y es (Utility kind.Utility (drop 1 us)) kept) e

      by_static : (w : Word) (vs : List Word) → operands es ≡ w ∷ vs → (s : Static) → static_of w ≡ s
          → simple_by a x n y es (calls_by functions (map static_of (w ∷ vs))) (map static_of (w ∷ vs)) kept ≡ simple_told a x n y es (manner_of_words functions (w ∷ vs)) kept
      by_static w vs e None s = rw s (no_name w vs e)
      by_static w vs e (Some t) s = rw s (of_name w vs e t (is_one_of functions t && not (is_special (kind_of t))))

      go : (us : List Word) → operands es ≡ us
          → simple_by a x n y es (calls_by functions (map static_of us)) (map static_of us) kept ≡ simple_told a x n y es (manner_of_words functions us) kept
      go [] e = refl
      go (w ∷ vs) e = by_static w vs e (static_of w) refl

  -- drops

  utility_drops_same : (function : Text) (kd : Kind) (vs : List Word) (kept : K)
      → utility_drops_by a x n function kd (map static_of vs) kept ≡ utility_drops_told a x n function x.functions kd vs kept
  unfolding utility_drops_by utility_drops_told
  utility_drops_same function (kind.Special known.Unset) vs kept =
      ap (λ names. loses_told a x n function (record { vars = names.vars; functions = filter (is_one_of x.functions) names.functions }) kept) (unset_words vs)
  utility_drops_same function kind.Getopts vs kept = refl
  utility_drops_same function _ vs kept = refl

  pub drops_same : (function : Text) (es : p.Elements) (kept : K)
      → drops_by a x n function es (calls_by x.functions (map static_of (operands es))) (map static_of (operands es)) kept
      ≡ simple_drops_told a x n function x.functions es (manner x.functions es) kept
  unfolding drops_by named_drops_by call_drops_by calls_by simple_drops_told utility_drops_told manner_of_words manner_of_name
  drops_same function es kept = go (operands es)
    where
      of_name : (t : Text) (vs : List Word) (b : Bool)
          → named_drops_by a x n function es b t (map static_of vs) kept ≡ simple_drops_told a x n function x.functions es (if b then table.Call t vs else Utility (kind_of t) vs) kept
      of_name t vs true = refl
      of_name t vs false = utility_drops_same function (kind_of t) vs kept

      by_static : (w : Word) (vs : List Word) (s : Static) → static_of w ≡ s
          → drops_by a x n function es (calls_by x.functions (map static_of (w ∷ vs))) (map static_of (w ∷ vs)) kept
          ≡ simple_drops_told a x n function x.functions es (manner_of_words x.functions (w ∷ vs)) kept
      by_static w vs None s = rw s refl
      by_static w vs (Some t) s = rw s (of_name t vs (is_one_of x.functions t && not (is_special (kind_of t))))

      go : (us : List Word)
          → drops_by a x n function es (calls_by x.functions (map static_of us)) (map static_of us) kept
          ≡ simple_drops_told a x n function x.functions es (manner_of_words x.functions us) kept
      go [] = refl
      go (w ∷ vs) = by_static w vs (static_of w) refl

pub texts_tell : {K : Type 0} (a : Asking K) → TextsTell K a
texts_tell a = record { simple = λ x n functions y es kept h. simple_same a x n functions y es kept h; drops = λ x n function es kept. drops_same a x n function es kept }
