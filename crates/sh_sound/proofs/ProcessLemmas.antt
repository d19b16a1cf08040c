-- Steps of pipelines and of asynchronous items.
use Rattle.std.proofs.Common.{◌≡◌, ℕ, suc, Bool, true, false, if◌then◌else◌, List, [], ◌∷◌, Some, refl, sym, subst, arith}
use Rattle.sh_tree.specs.standard.program.Syntax as p
use Rattle.sh_tree.specs.standard.program.Syntax.{Text}
use Rattle.sh_runs.specs.standard.runs.Environment.{Environment, Frame, copied}
use Rattle.sh_runs.specs.standard.runs.Answers.{Answer}
use Rattle.sh_runs.specs.standard.runs.Steps as steps
use Rattle.sh_runs.specs.standard.runs.Steps.{negated_work, parts, piped, and_or_work, act_on}
use Rattle.sh_runs.specs.standard.runs.Work.{Work, Items, Pipeline, Command, Shares, Copies, Effect}
use Rattle.sh_domain.specs.declared.rule.FlowRule.{FlowRule}
use Rattle.sh_domain.specs.declared.rule.FlowRule.TheVariants.{F2, F11, F12}
use Rattle.sh_domain.specs.Entries as entries
use Rattle.sh_domain.specs.Entries.{Around, alone, in_part, items_after, item_after, pipeline_after, parts_after}
use Rattle.sh_domain.specs.Facts.{Facts}
use Rattle.sh_domain.specs.Gains.{named, job}
use Rattle.sh_domain.specs.Views.{Certificate, Seen, After, Both, if_zero, in_any_case, swapped, after_command, without_job}
use Rattle.sh_sound.specs.Holding.{Stands, Has, Grows, OneHolds}
use Rattle.sh_domain.specs.Inclusions as i
use Rattle.sh_sound.specs.Going.{around, number_of, Began, front, CommandAt, Bodies, FrontGood, Good, GoodIn, Stays, ProcessOk, StartOk, StartsOk, NextOk, StepOk}
use Rattle.sh_sound.proofs.HoldLemmas.{each_left, each_right, one_grows, gain_holds, any_holds, both_holds}
use Rattle.sh_sound.proofs.ExpansionLemmas.{job_no_name, one_name, without_job_holds}
use Rattle.sh_sound.proofs.ListLemmas.{began_alone, began_part, turned, turns_to, leads_same, stays_grow, frame_stays, same_frames}
use Rattle.sh_sound.proofs.CompoundLemmas.{lose_job, starts_ok}

-- `!` is set
job_grows : (e : Environment) → Grows e (record e { job = true })
job_grows e = record { variables = λ t i h. h; functions = λ t i h. h; job = λ h. refl }

job_has : (e : Environment) (f : Frame) → Has (named (job ∷ [])) (record e { job = true }) f
job_has e f = record { variables = λ t i s. absurd (job_no_name t i (sym (one_name job t s))); job = λ s. refl; functions = λ t i s. cc; parameters = omega arith }

module _ (d : Facts) (c : Certificate) (defined : List Text) (SimpleAt : Around → Work → Seen → Type 0) where
  abbrev Well : Around → Environment → List Frame → ℕ → List Work → Type 0
  Well base e fs status ws = ProcessOk d c defined SimpleAt base e fs status ws

  abbrev Ok : Around → Environment → List Frame → ℕ → Effect → Type 0
  Ok base e fs status x = StepOk d c defined SimpleAt base e fs status x

  -- an and-or list in a copy
  and_or_starts : (e : Environment) (f : Frame) (status : ℕ) (b : Bool) (s : Seen) (rule : FlowRule) (first : p.Pipeline) (rest : p.Links) → Bodies d c defined e.functions → OneHolds d c s e f
      → i.Each (Stands d c defined) (entries.list_entered rule alone (without_job s) (p.and_or first rest)) → Well alone (copied b e) (f ∷ []) status (and_or_work (p.and_or first rest))
  unfolding and_or_work entries.list_entered GoodIn Good FrontGood Stays front around in_any_case
  and_or_starts e f status b s rule first rest bodies h rules =
      let t = without_job s in
      let o = pipeline_after t first in
      record {
        known = Both t;
        callers = [];
        good = record {
          after = Both t;
          leads = leads_same d c defined SimpleAt (Both t);
          goes = (
            (rule, each_left (Stands d c defined) (entries.pipeline_entered rule alone t first) _ rules),
            record { after = o; leads = leads_same d c defined SimpleAt o; goes = (each_right (Stands d c defined) (entries.pipeline_entered rule alone t first) _ rules, began_alone) },
          );
        };
        holds = both_holds d c status t (copied b e) f (without_job_holds d c defined s b e f h);
        stays = (f, refl);
        bodies = bodies;
      }

  -- a part of a pipeline
  command_starts : (base : Around) (e : Environment) (f : Frame) (status : ℕ) (s : Seen) (rule : FlowRule) (k : p.Command) → Began base [] → Bodies d c defined e.functions → OneHolds d c s e f
      → i.Each (Stands d c defined) (entries.command_entered rule base s k) → Well base e (f ∷ []) status (Command k ∷ [])
  unfolding GoodIn Good FrontGood Stays front around in_any_case
  command_starts base e f status s rule k began bodies h rules = record {
    known = Both s;
    callers = [];
    good = record { after = Both s; leads = leads_same d c defined SimpleAt (Both s); goes = ((rule, rules), began) };
    holds = both_holds d c status s e f h;
    stays = (f, refl);
    bodies = bodies;
  }

  module _ (base : Around) (e : Environment) (fs : List Frame) (status : ℕ) (ws : List Work) (a : Answer) where
    abbrev x : Around
    x = around base ws

    pub item_starts_ok : (first : p.Pipeline) (rest : p.Links) (others : p.Items) → Well base e fs status (Items (p.more_items (p.and_or first rest) true others) ∷ ws)
        → Ok base e fs status (act_on e (front fs) status ws a (Items (p.more_items (p.and_or first rest) true others)))
    unfolding act_on steps.items GoodIn Good FrontGood items_after item_after entries.items_entered entries.item_rule entries.item_around entries.item_seen around in_any_case if_zero i.Each StartOk StartsOk NextOk
    item_starts_ok first rest others live =
        let q = live.good.after in
        let s = in_any_case q in
        let list = p.and_or first rest in
        let all = live.good.goes.0 in
        let here = each_left (Stands d c defined) (entries.list_entered F11 alone (without_job s) list) _ all.1 in
        let then_items = each_right (Stands d c defined) (entries.list_entered F11 alone (without_job s) list) _ all.1 in
        let known = any_holds d c status q e (front fs) (live.good.leads status e (front fs) live.holds) in
        let now = record e { job = true } in
        let o = item_after s true list in
        let well : Well base now fs 0 (Items others ∷ ws) = record {
          known = o;
          callers = live.callers;
          good = record { after = o; leads = leads_same d c defined SimpleAt o; goes = ((F2, then_items), live.good.goes.1) };
          holds = gain_holds d c (named (job ∷ [])) s now (front fs) (job_has e (front fs)) (one_grows d c s e now (front fs) (job_grows e) known);
          stays = stays_grow d c defined SimpleAt live.callers e now fs (job_grows e) live.stays;
          bodies = live.bodies;
        } in
        record {
          quiet = refl;
          next = λ h. subst (λ gs. Well base now gs 0 (Items others ∷ ws)) (sym (same_frames d c defined SimpleAt fs)) well;
          starts = (
            (
              alone,
              and_or_starts e (front fs) status (a.carries 0) s F11 first rest live.bodies known here,
            ),
            tt,
          );
          grows = λ h. job_grows e;
          frame = λ h. frame_stays d c defined SimpleAt fs;
        }

    -- each part shares, or has copies
    parts_ok : (n now : ℕ) (vs : List Work) (cs : p.Commands) (s : Seen) (rule : FlowRule) (y : Around) → Bodies d c defined e.functions → OneHolds d c s e (front fs)
        → i.Each (Stands d c defined) (entries.commands_entered rule (in_part y) (without_job s) cs) → i.Each (StartOk d c defined SimpleAt e (front fs) status (Some (now, vs))) (parts e (front fs) status ws a n cs)
    unfolding parts i.Each StartOk entries.commands_entered
    parts_ok n now vs p.no_commands s rule y bodies h rules = tt
    parts_ok n now vs (p.more_commands k cs) s rule y bodies h rules =
        (go (a.shares n), parts_ok (suc n) now vs cs s rule y bodies h (each_right (Stands d c defined) (entries.command_entered rule (in_part y) (without_job s) k) _ rules))
      where
        here : i.Each (Stands d c defined) (entries.command_entered rule (in_part y) (without_job s) k)
        here = each_left (Stands d c defined) (entries.command_entered rule (in_part y) (without_job s) k) _ rules

        go : (b : Bool) → StartOk d c defined SimpleAt e (front fs) status (Some (now, vs)) (if b then Shares (Command k ∷ []) else Copies (copied (a.carries n) e) (Command k ∷ []))
        go true = (refl, (in_part y, refl, command_starts (in_part y) e (front fs) status (without_job s) rule k (began_part y) bodies (lose_job d c defined s e (front fs) h) here))
        go false = (in_part y, command_starts (in_part y) (copied (a.carries n) e) (front fs) status (without_job s) rule k (began_part y) bodies (without_job_holds d c defined s (a.carries n) e (front fs) h) here)

    negated_good : (callers : List Facts) (b : Bool) (o : After) → Good d c defined SimpleAt base callers ws (swapped b o) → Good d c defined SimpleAt base callers (negated_work e (front fs) status ws a b) o
    unfolding negated_work swapped GoodIn Good FrontGood
    negated_good callers true o h = record { after = o; leads = leads_same d c defined SimpleAt o; goes = h }
    negated_good callers false o h = h

    negated_around : (b : Bool) → around base (negated_work e (front fs) status ws a b) ≡ x
    unfolding negated_work around
    negated_around true = refl
    negated_around false = refl

    pub pipeline_ok : (b : Bool) (cs : p.Commands) → Well base e fs status (Pipeline (p.pipeline b cs) ∷ ws) → Ok base e fs status (act_on e (front fs) status ws a (Pipeline (p.pipeline b cs)))
    unfolding act_on piped GoodIn Good FrontGood pipeline_after parts_after entries.pipeline_entered entries.commands_entered entries.part_rule entries.part_around entries.item_seen entries.is_long in_any_case number_of
    pipeline_ok b p.no_commands live =
        let q = live.good.after in
        let s = in_any_case q in
        let known = any_holds d c status q e (front fs) (live.good.leads status e (front fs) live.holds) in
        turns_to d c defined SimpleAt base e fs status status _ (negated_work e (front fs) status ws a b) live (Both s)
        (negated_good live.callers b (Both s) live.good.goes.1)
        (both_holds d c status s e (front fs) known)
    pipeline_ok b (p.more_commands (p.command n offset kind rs) p.no_commands) live =
        let q = live.good.after in
        let s = in_any_case q in
        let k = p.command n offset kind rs in
        let known = any_holds d c status q e (front fs) (live.good.leads status e (front fs) live.holds) in
        let all = live.good.goes.0 in
        turns_to d c defined SimpleAt base e fs status status _ (Command k ∷ negated_work e (front fs) status ws a b) live (Both s)
        (record {
          after = Both s;
          leads = leads_same d c defined SimpleAt (Both s);
          goes = (
            subst (λ y. CommandAt d c defined y s k) (sym (negated_around b)) (all.0, each_left (Stands d c defined) (entries.command_entered all.0 x s k) _ all.1),
            negated_good live.callers b (after_command n) live.good.goes.1,
          );
        })
        (both_holds d c status s e (front fs) known)
    pipeline_ok b (p.more_commands (p.command n offset kind rs) (p.more_commands k' cs)) live =
        let k = p.command n offset kind rs in
        let q = live.good.after in
        let s = in_any_case q in
        let known = any_holds d c status q e (front fs) (live.good.leads status e (front fs) live.holds) in
        starts_ok d c defined SimpleAt base e fs status a.status (negated_work e (front fs) status ws a b) _
        (turned d c defined SimpleAt base e fs status a.status _ (negated_work e (front fs) status ws a b) live (Both s) (negated_good live.callers b (Both s) live.good.goes.1)
        (both_holds d c a.status s e (front fs) known))
        (parts_ok 0 a.status (negated_work e (front fs) status ws a b) (p.more_commands k (p.more_commands k' cs)) s F12 x live.bodies known live.good.goes.0.1)
