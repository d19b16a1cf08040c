-- Let a program keep the rules of quoting. In no run of it does a step split a value, unless it
-- meets a parameter that is not set.
use Rattle.std.proofs.Common.{◌≡◌, ℕ, Bool, true, false, ◌||◌, if◌then◌else◌, Option, Some, None, unwrap_or, option_map, List, [], ◌∷◌, flat_map, refl, sym, ◌∙◌}
use Rattle.std.specs.List.{list_all}
use Rattle.std.proofs.lemmas.Bool.{and_parts, and_from}
use Rattle.std.proofs.lemmas.Option.{none-some}
use Rattle.sh_runs.specs.Quoting.{is_steady}
use Rattle.sh_runs.specs.Rows.{command_gives_fields}
use Rattle.sh_runs.specs.Surroundings.{Located, outside, items_located}
use Rattle.sh_runs.specs.standard.runs.Environment.{Environment, Frame}
use Rattle.sh_runs.specs.standard.runs.Answers.{Answer}
use Rattle.sh_runs.specs.standard.runs.Steps.{act}
use Rattle.sh_runs.specs.standard.runs.Work.{Work}
use Rattle.sh_runs.specs.standard.runs.Worlds.{Process, World, Move, waits, effect_of, may_step, stepping, has_unset_event, has_split_event}
use Rattle.sh_runs.proofs.AdmittedLemmas.{is_free, items_listed}
use Rattle.sh_runs.proofs.ProcessLemmas.{WorldHolds, work_holds, Kept, run_holds}
use Rattle.sh_quote.specs.Places.{word_places, split_words, unquoted}
use Rattle.sh_quote.specs.Steady.{steady_command, steady}
use Rattle.sh_quote.specs.Theorem.{QuotingSuffices}
use Rattle.sh_quote.specs.Invariant.{is_good, AllGood, ItemsGood, WorkGood, AllWorkGood, EnvironmentGood}
use Rattle.sh_quote.proofs.EffectLemmas.{EffectGood, ends_good}
use Rattle.sh_quote.proofs.GoodLemmas.{good_from, nil_parts}
use Rattle.sh_quote.proofs.StepLemmas.{act_on_good}

-- The commands of the program

module _ (numbers : Bool) where
  all_good : (ls : List Located) → flat_map (λ l. flat_map (word_places numbers) (split_words l.command)) ls ≡ [] → (numbers ≡ true → list_all (λ l. steady_command l.command) ls ≡ true)
      → list_all (λ l. command_gives_fields l.command) ls ≡ true → list_all is_free ls ≡ true → AllGood numbers ls
  all_good [] q s c f = refl
  all_good (l ∷ ls) q s c f =
      let a = nil_parts (flat_map (word_places numbers) (split_words l.command)) (flat_map (λ l. flat_map (word_places numbers) (split_words l.command)) ls) q in
      let b = λ (n : numbers ≡ true). and_parts (steady_command l.command) (list_all (λ l. steady_command l.command) ls) (s n) in
      let d = and_parts (command_gives_fields l.command) (list_all (λ l. command_gives_fields l.command) ls) c in
      let g = and_parts (is_free l) (list_all is_free ls) f in
      and_from (is_good numbers l) (list_all (is_good numbers) ls) (good_from numbers l a.0 (λ n. (b n).0) d.0 g.0) (all_good ls a.1 (λ n. (b n).1) d.1 g.1)

  -- Worlds

  abbrev WorldGood : World → Type 0
  WorldGood w = WorldHolds (EnvironmentGood numbers) (AllWorkGood numbers) w

  act_good : (e : Environment) (f : Frame) (status : ℕ) (ws : List Work) (a : Answer) → EnvironmentGood numbers e → AllWorkGood numbers ws → EffectGood numbers (act e f status ws a)
  unfolding act AllWorkGood
  act_good e f status [] a h k = ends_good numbers e f h
  act_good e f status (w ∷ ws) a h k = act_on_good numbers e f status ws a h k.1 w k.0

  steps_keep : Kept (EnvironmentGood numbers) (AllWorkGood numbers)
  steps_keep e f status ws a h k =
      let x : EffectGood numbers (act e f status ws a) = act_good e f status ws a h k in
      record { environment = x.environment; next = x.next; starts = x.starts }

  effect_good : (w : World) (m : Move) (r : Process) → WorldGood w → w.processes m.process ≡ Some r → EffectGood numbers (effect_of w m r)
  unfolding effect_of
  effect_good w m r h q = act_good _ _ r.status r.work m.answer (h.environments r.environment) (work_holds (EnvironmentGood numbers) (AllWorkGood numbers) w m.process r h q)

  may_lives : (w : World) (m : Move) (o : Option Process) (r : Process) → may_step w m o ≡ Some r → o ≡ Some r
  unfolding may_step
  may_lives w m None r q = absurd (none-some r q)
  may_lives w m (Some s) r q = go (w.over || waits w m.process) q
    where
      go : (b : Bool) → (if b then None else Some s) ≡ Some r → Some s ≡ Some r
      go true k = absurd (none-some r k)
      go false k = k

  quiet_move : (w : World) (m : Move) → WorldGood w → has_unset_event w m ≡ false → has_split_event w m ≡ false
  unfolding has_unset_event has_split_event
  quiet_move w m h u = go (stepping w m) refl u
    where
      go : (o : Option Process) → stepping w m ≡ o → unwrap_or (option_map (λ r. (effect_of w m r).unset) o) false ≡ false → unwrap_or (option_map (λ r. (effect_of w m r).split) o) false ≡ false
      go None q k = refl
      go (Some r) q k = (effect_good w m r h (may_lives w m (w.processes m.process) r q)).quiet k

-- The theorem

pub quoting_suffices : QuotingSuffices
unfolding unquoted steady is_steady ItemsGood AllWorkGood WorkGood
quoting_suffices t admitted stand none names args e f begin moves w runs m quiet =
    let numbers : Bool = steady t in
    let listed : list_all is_free (items_located outside t) ≡ true = sym (items_listed outside t) ∙ admitted in
    let good : AllGood numbers (items_located outside t) = all_good numbers (items_located outside t) none (λ n. n) stand listed in
    let environment : EnvironmentGood numbers e = record {
      ifs = λ n. rw begin.ifs refl;
      functions = λ name c q. absurd (none-some c (sym (begin.functions name) ∙ q));
    } in
    quiet_move numbers w m
    (run_holds (EnvironmentGood numbers) (AllWorkGood numbers) (steps_keep numbers) e f t moves w environment ((outside, good), tt) runs)
    quiet
