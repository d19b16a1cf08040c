-- If nothing is lowered at a place and a function, none of the flow rules of the script is broken
-- there.
use Rattle.std.proofs.Common.{◌≡◌, true, List, ap, ◌∙◌, subst}
use Rattle.std.specs.List.{list_all}
use Rattle.sh_tree.specs.standard.program.Trees.{script_of}
use Rattle.sh_domain.specs.declared.certificate.Certificate as kept
use Rattle.sh_domain.specs.Forms.{is_variable}
use Rattle.sh_domain.specs.Inclusions.{Each}
use Rattle.sh_domain.specs.Rules.{Constraint, script_bounds}
use Rattle.sh_domain.specs.Admitted.{IsAdmitted, claims_in, functions_in}
use Rattle.sh_sweeps.specs.declared.gather.Gather.{Gather}
use Rattle.sh_drafts.specs.declared.target.Target.{Target}
use Rattle.sh_drafts.specs.declared.subject.Subject.{Subject}
use Rattle.sh_drafts.specs.Gathered.{Gathered, all_gathered}
use Rattle.sh_drafts.specs.Idle.{IsIdle}
use Rattle.sh_sweeps.specs.Next.{IsBroken, IsKeptAt, IsOfScript}
use Rattle.sh_drafts.specs.Stated.{asked_bounds}
use Rattle.sh_sweeps.specs.Asked.{IsNew, gathered_of}
use Rattle.sh_drafts.specs.Turns.{sheet_by}
use Rattle.sh_drafts.specs.Writable.{sets_in}
use Rattle.sh_drafts.specs.Starts.{start_of}
use Rattle.sh_drafts.proofs.GatherLemmas.{function_stays, place_stays}
use Rattle.sh_sweeps.proofs.IdleLemmas.{idle_keeps}
use Rattle.sh_sweeps.proofs.NextLemmas.{none_broken}
use Rattle.sh_drafts.proofs.StartLemmas.{start_knows}

module _ (s : Subject) (c : kept.Certificate) (a : IsAdmitted s.script.now s.policy.now s.tree.now s.names.now) (variables : list_all is_variable s.names.now ≡ true) (w : IsOfScript s c) (target : Target) (first : Gather)
    (new : IsNew target first) (g : Gathered) where
  abbrev ks : List Constraint
  ks = asked_bounds s.stated (script_bounds (script_of s.script.now s.tree.now))

  sought_place : (gathered_of first).place ≡ target.place
  unfolding gathered_of
  sought_place = ap (λ (t : Target). t.place) new.at

  sought_function : (gathered_of first).function ≡ target.function
  unfolding gathered_of
  sought_function = ap (λ (t : Target). t.function) new.at

  pub idle_whole : g ≡ all_gathered s.names.now (functions_in s.script.now s.tree.now) (start_of s) (claims_in s.script.now s.tree.now (sheet_by s.names.now c)) (gathered_of first) ks
      → IsIdle c (sets_in s.writable.now.vars s.writable.now.functions) g → IsBroken s c target → ⊥
  idle_whole is idle broken =
      let functions = functions_in s.script.now s.tree.now in
      let own = claims_in s.script.now s.tree.now (sheet_by s.names.now c) in
      let all = idle_keeps s.script.now s.policy.now s.tree.now s.names.now (start_of s) (start_knows s) a variables w.loops w.are_loops c w.working target first new g s.stated is _ s.all_writable idle in
      let place : g.place ≡ target.place = ap (λ (x : Gathered). x.place) is ∙ place_stays s.names.now functions (start_of s) own ks (gathered_of first) ∙ sought_place in
      let function : g.function ≡ target.function = ap (λ (x : Gathered). x.function) is ∙ function_stays s.names.now functions (start_of s) own ks (gathered_of first) ∙ sought_function in
      none_broken functions (start_of s) own target.place target.function ks
      (subst (λ p. Each (IsKeptAt functions (start_of s) own p target.function) ks) place (subst (λ i. Each (IsKeptAt functions (start_of s) own g.place i) ks) function all)) broken
