-- If rules, demands and quoting hold, no run has an event.
use Rattle.std.proofs.Common.{◌≡◌, Bool, true, false, ◌||◌, Option, Some, None, List, [], ◌∷◌, ◌++◌, refl, ◌∙◌, unwrap_or, option_map, option_and_then}
use Rattle.std.proofs.lemmas.Option.{same_Some, none-some}
use Rattle.sh_runs.specs.standard.runs.Worlds.{World, Move, step, run, has_unset_event, has_split_event, start_world}
use Rattle.sh_domain.proofs.GivenLemmas.{formed_gives_fields}
use Rattle.sh_quote.proofs.SplitLemmas.{quoting_suffices}
use Rattle.sh_sound.specs.Theorem.{splits, HaveNoEvents}
use Rattle.sh_sound.proofs.TheoremLemmas.{rules_suffice}

-- One move more

run_more : (moves : List Move) (m : Move) (s v w : World) → run moves s ≡ Some v → step v m ≡ Some w → run (moves ++ m ∷ []) s ≡ Some w
unfolding run
run_more [] m s v w h k = let same : s ≡ v = same_Some s v h in rw (same, k) refl
run_more (n ∷ ns) m s v w h k = go (step s n) h (λ u g. run_more ns m u v w g k)
  where
    go : (o : Option World) → option_and_then (run ns) o ≡ Some v → ((u : World) → run ns u ≡ Some v → run (ns ++ m ∷ []) u ≡ Some w) → option_and_then (run (ns ++ m ∷ [])) o ≡ Some w
    go None g later = absurd (none-some v g)
    go (Some u) g later = later u g

splits_more : (moves : List Move) (m : Move) (s v : World) → run moves s ≡ Some v → splits moves s ≡ false → has_split_event v m ≡ false → splits (moves ++ m ∷ []) s ≡ false
unfolding run splits
splits_more [] m s v h whole k = let same : s ≡ v = same_Some s v h in rw same (go (has_split_event v m) (step v m) k)
  where
    go : (b : Bool) (o : Option World) → b ≡ false → (b || unwrap_or (option_map (splits []) o) false) ≡ false
    go true o e = cc
    go false None e = refl
    go false (Some u) e = refl
splits_more (n ∷ ns) m s v h whole k = go (has_split_event s n) (step s n) h whole (λ u g w. splits_more ns m u v g w k)
  where
    go : (b : Bool) (o : Option World) → option_and_then (run ns) o ≡ Some v → (b || unwrap_or (option_map (splits ns) o) false) ≡ false
        → ((u : World) → run ns u ≡ Some v → splits ns u ≡ false → splits (ns ++ m ∷ []) u ≡ false)
        → (b || unwrap_or (option_map (splits (ns ++ m ∷ [])) o) false) ≡ false
    go true o g w later = cc
    go false None g w later = refl
    go false (Some u) g w later = later u g w

-- Of a start from which no step expands an unset parameter before something was split, and none
-- splits before a parameter was unset

module _ (s : World) (quiet : (moves : List Move) (w : World) → run moves s ≡ Some w → splits moves s ≡ false → (m : Move) → has_unset_event w m ≡ false)
    (whole : (moves : List Move) (w : World) → run moves s ≡ Some w → (m : Move) → has_unset_event w m ≡ false → has_split_event w m ≡ false) where
  -- what is run after a run that split nothing splits nothing
  splits_none : (moves : List Move) (before : List Move) (v w : World) → run before s ≡ Some v → splits before s ≡ false → run moves v ≡ Some w
      → (ms : List Move) × (run ms s ≡ Some w) × (splits ms s ≡ false)
  unfolding run
  splits_none [] before v w h k g = (before, h ∙ g, k)
  splits_none (m ∷ ms) before v w h k g = go (step v m) refl g (λ u a b c. splits_none ms (before ++ m ∷ []) u w a b c)
    where
      none : has_split_event v m ≡ false
      none = whole before v h m (quiet before v h k m)

      go : (o : Option World) → step v m ≡ o → option_and_then (run ms) o ≡ Some w
          → ((u : World) → run (before ++ m ∷ []) s ≡ Some u → splits (before ++ m ∷ []) s ≡ false → run ms u ≡ Some w → (ns : List Move) × (run ns s ≡ Some w) × (splits ns s ≡ false))
          → (ns : List Move) × (run ns s ≡ Some w) × (splits ns s ≡ false)
      go None e c later = absurd (none-some w c)
      go (Some u) e c later = later u (run_more before m s v u h e) (splits_more before m s v h k none) c

  no_event : (moves : List Move) (w : World) → run moves s ≡ Some w → (m : Move) → (has_unset_event w m ≡ false) × (has_split_event w m ≡ false)
  unfolding run splits
  no_event moves w h m =
      let one = splits_none moves [] s w refl refl h in
      let unset = quiet one.0 w one.1 one.2 m in
      (unset, whole moves w h m unset)

-- The headline

pub have_no_events : HaveNoEvents
have_no_events d c t named admitted formed rules met quoted e f begin moves w runs m =
    no_event (start_world e f t) (λ ms v h k n. rules_suffice d c t named admitted formed rules met e f begin ms v h k n)
    (λ ms v h n k. quoting_suffices t admitted (formed_gives_fields t formed) quoted d.names d.args e f begin ms v h n k) moves w runs m
