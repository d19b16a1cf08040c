-- Steps of lists, pipelines, and-or lists and compound commands.
use Rattle.std.proofs.Common.{◌≡◌, ℕ, ◌==◌, Bool, true, false, not, if◌then◌else◌, List, [], ◌∷◌, ◌++◌, Some, refl, sym, subst}
use Rattle.sh_tree.specs.declared.tree.Link.{Link}
use Rattle.sh_tree.specs.declared.tree.Link.TheVariants as link
use Rattle.sh_tree.specs.declared.tree.LoopKind.{LoopKind}
use Rattle.sh_tree.specs.declared.tree.LoopKind.TheVariants as loop
use Rattle.sh_tree.specs.standard.program.Syntax as p
use Rattle.sh_tree.specs.standard.program.Syntax.{Text}
use Rattle.sh_runs.specs.standard.runs.Environment.{Environment, Frame, with_variable}
use Rattle.sh_runs.specs.standard.runs.Answers.{Answer}
use Rattle.sh_runs.specs.standard.runs.Work.{Work, Items, Links, Pipeline, Negation, If, Then, Test, Again, ForFields, Keeps, Effect, goes, ends}
use Rattle.sh_runs.specs.standard.runs.Steps.{takes_link, takes_turn, links, branch, test, for_fields, act_on}
use Rattle.sh_runs.specs.standard.runs.Steps as steps
use Rattle.sh_domain.specs.declared.rule.FlowRule.TheVariants.{F2, F3, F6}
use Rattle.sh_domain.specs.Entries.{Around, alone, in_part, items_after, item_after, links_after, linked, link_seen, list_after, pipeline_after, turns, ends as loop_ends}
use Rattle.sh_domain.specs.Entries as entries
use Rattle.sh_domain.specs.Facts.{Facts}
use Rattle.sh_domain.specs.Gains.{named}
use Rattle.sh_domain.specs.Views.{Certificate, AfterZero, Head, Seen, After, Both, if_zero, if_nonzero, in_any_case, swapped, after_command, at, gaining_names}
use Rattle.sh_sound.specs.Holding.{Stands, Grows, OneHolds, AfterHolds, Leads}
use Rattle.sh_domain.specs.Inclusions as i
use Rattle.sh_domain.specs.Inclusions.{Leaves}
use Rattle.sh_sound.specs.Going.{around, OfFirst, Began, after_function, Bodies, ItemsAt, LoopAt, FrontGood, Good, GoodIn, Stays, front, ProcessOk, frames_behind, NextOk, FrameStays, StartsOk, StepOk}
use Rattle.sh_sound.proofs.HoldLemmas.{each_left, each_right, grows_refl, holds_grow, one_left, one_right, covers_at, gain_holds, one_grows, any_holds, both_holds, leads_any, leads_both, leads_each, leaves_lead, leads_trans}
use Rattle.sh_sound.proofs.ExpansionLemmas.{has_name, assigned_grows, assigned_set}

-- the script and a process that is started, and a part of a pipeline
pub began_alone : Began alone []
began_alone = record { none_waits = refl; no_loop = refl; no_function = refl }

pub began_part : (x : Around) → Began (in_part x) []
began_part x = record { none_waits = refl; no_loop = refl; no_function = refl }

module _ (d : Facts) (c : Certificate) (defined : List Text) (SimpleAt : Around → Work → Seen → Type 0) where
  -- more may be known than the work asks
  pub good_weaker : (base : Around) (callers : List Facts) (ws : List Work) (a b : After) → Leads d c a b → Good d c defined SimpleAt base callers ws b → Good d c defined SimpleAt base callers ws a
  unfolding Good OfFirst
  good_weaker base callers [] a b l g = g
  good_weaker base [] (Work.Return n f saved ∷ ws) a b l g = absurd g
  good_weaker base (kept ∷ callers) (Work.Return n f saved ∷ ws) a b l g = (leads_trans d c a b (after_function f) l g.0, g.1, g.2)
  good_weaker base callers (w ∷ ws) a b l g = record { after = g.after; leads = leads_trans d c a b g.after l g.leads; goes = g.goes }

  -- work that may be after other work may be at the front
  pub good_in : (f : Frame) (base : Around) (callers : List Facts) (ws : List Work) (o : After) → Good d c defined SimpleAt base callers ws o → GoodIn d c defined SimpleAt f base callers ws o
  unfolding GoodIn Good FrontGood
  good_in f base callers [] o g = g
  good_in f base callers (Work.Words k left fields rs xs ∷ ws) o g = absurd g.goes
  good_in f base callers (w ∷ ws) o g = g

  abbrev Well : Around → Environment → List Frame → ℕ → List Work → Type 0
  Well base e fs status ws = ProcessOk d c defined SimpleAt base e fs status ws

  abbrev Ok : Around → Environment → List Frame → ℕ → Effect → Type 0
  Ok base e fs status x = StepOk d c defined SimpleAt base e fs status x

  abbrev GoesOn : Around → List Facts → List Work → After → Type 0
  GoesOn base callers ws o = Good d c defined SimpleAt base callers ws o

  abbrev Front : Around → List Facts → List Work → Work → After → Type 0
  Front base callers ws w q = FrontGood d c defined SimpleAt (around base ws) w (λ r. GoesOn base callers ws r) q

  pub same_frames : (fs : List Frame) → frames_behind fs (Keeps (front fs)) ≡ fs
  unfolding frames_behind front
  same_frames [] = refl
  same_frames (f ∷ fs) = refl

  pub frame_stays : (fs : List Frame) → FrameStays fs (Keeps (front fs))
  unfolding FrameStays front
  frame_stays [] = tt
  frame_stays (f ∷ []) = refl
  frame_stays (f ∷ g ∷ fs) = tt

  -- a step without expansions
  pub step_goes : (base : Around) (e e' : Environment) (fs : List Frame) (status now : ℕ) (ws : List Work) → Grows e e' → Well base e' fs now ws → Ok base e fs status (goes e' (front fs) now ws)
  unfolding NextOk StartsOk i.Each
  step_goes base e e' fs status now ws g p = record {
    quiet = refl;
    next = λ h. subst (λ gs. Well base e' gs now ws) (sym (same_frames fs)) p;
    starts = tt;
    grows = λ h. g;
    frame = λ h. frame_stays fs;
  }

  pub step_ends : (base : Around) (e e' : Environment) (fs : List Frame) (status : ℕ) → Grows e e' → Bodies d c defined e'.functions → Ok base e fs status (ends e' (front fs))
  unfolding NextOk StartsOk i.Each
  step_ends base e e' fs status g b = record { quiet = refl; next = λ h. b; starts = tt; grows = λ h. g; frame = λ h. frame_stays fs }

  -- other work, in the same environment
  pub turned : (base : Around) (e : Environment) (fs : List Frame) (status now : ℕ) (ws vs : List Work) (live : Well base e fs status ws) (o : After)
      → GoesOn base live.callers vs o → AfterHolds d c now o e (front fs) → Well base e fs now vs
  turned base e fs status now ws vs live o g h = record { known = o; callers = live.callers; good = good_in (front fs) base live.callers vs o g; holds = h; stays = live.stays; bodies = live.bodies }

  pub turns_to : (base : Around) (e : Environment) (fs : List Frame) (status now : ℕ) (ws vs : List Work) (live : Well base e fs status ws) (o : After)
      → GoesOn base live.callers vs o → AfterHolds d c now o e (front fs) → Ok base e fs status (goes e (front fs) now vs)
  turns_to base e fs status now ws vs live o g h = step_goes base e e fs status now vs (grows_refl e) (turned base e fs status now ws vs live o g h)

  -- By the status

  pub where_zero : (status : ℕ) (o : After) (e : Environment) (f : Frame) → (status == 0) ≡ true → AfterHolds d c status o e f → OneHolds d c (if_zero o) e f
  where_zero status o e f h k = subst (λ b. OneHolds d c (if b then if_zero o else if_nonzero o) e f) h k

  pub where_nonzero : (status : ℕ) (o : After) (e : Environment) (f : Frame) → (status == 0) ≡ false → AfterHolds d c status o e f → OneHolds d c (if_nonzero o) e f
  where_nonzero status o e f h k = subst (λ b. OneHolds d c (if b then if_zero o else if_nonzero o) e f) h k

  pub zero_holds : (status : ℕ) (o : After) (e : Environment) (f : Frame) → (status == 0) ≡ true → OneHolds d c (if_zero o) e f → AfterHolds d c status o e f
  zero_holds status o e f h k = subst (λ b. OneHolds d c (if b then if_zero o else if_nonzero o) e f) (sym h) k

  pub nonzero_holds : (status : ℕ) (o : After) (e : Environment) (f : Frame) → (status == 0) ≡ false → OneHolds d c (if_nonzero o) e f → AfterHolds d c status o e f
  nonzero_holds status o e f h k = subst (λ b. OneHolds d c (if b then if_zero o else if_nonzero o) e f) (sym h) k

  pub leads_same : (o : After) → Leads d c o o
  leads_same o status e f h = h

  -- by a status, whether a loop takes a turn
  takes : Bool → LoopKind → Bool
  takes b loop.While = b
  takes b loop.Until = not b

  -- what callers keep outlives growth
  pub stays_grow : (callers : List Facts) (e e' : Environment) (fs : List Frame) → Grows e e' → Stays d c defined SimpleAt callers e fs → Stays d c defined SimpleAt callers e' fs
  unfolding Stays
  stays_grow [] e e' fs g h = h
  stays_grow (kept ∷ callers) e e' [] g h = h
  stays_grow (kept ∷ callers) e e' (f ∷ []) g h = h
  stays_grow (kept ∷ callers) e e' (f ∷ k ∷ fs) g h = (holds_grow kept e e' k g h.0, stays_grow callers e e' (k ∷ fs) g h.1)

  -- One process with a piece of work at its front.
  module _ (base : Around) (e : Environment) (fs : List Frame) (status : ℕ) (ws : List Work) (a : Answer) where
    abbrev x : Around
    x = around base ws

    -- a list is at its end
    pub items_end_ok : Well base e fs status (Items p.no_items ∷ ws) → Ok base e fs status (act_on e (front fs) status ws a (Items p.no_items))
    unfolding act_on steps.items GoodIn Good FrontGood items_after
    items_end_ok live = turns_to base e fs status status (Items p.no_items ∷ ws) ws live live.good.after live.good.goes.1 (live.good.leads status e (front fs) live.holds)

    -- its next item begins
    pub item_ok : (first : p.Pipeline) (rest : p.Links) (others : p.Items) → Well base e fs status (Items (p.more_items (p.and_or first rest) false others) ∷ ws)
        → Ok base e fs status (act_on e (front fs) status ws a (Items (p.more_items (p.and_or first rest) false others)))
    unfolding act_on steps.items GoodIn Good FrontGood items_after item_after list_after entries.items_entered entries.item_rule entries.item_around entries.item_seen around in_any_case
    item_ok first rest others live =
        let q = live.good.after in
        let s = in_any_case q in
        let o = pipeline_after s first in
        let all = live.good.goes.0 in
        let here = each_left (Stands d c defined) (entries.list_entered all.0 x s (p.and_or first rest)) _ all.1 in
        let then_items = each_right (Stands d c defined) (entries.list_entered all.0 x s (p.and_or first rest)) _ all.1 in
        let pipe = each_left (Stands d c defined) (entries.pipeline_entered all.0 x s first) _ here in
        let more = each_right (Stands d c defined) (entries.pipeline_entered all.0 x s first) _ here in
        turns_to base e fs status status _ (Pipeline first ∷ Links rest ∷ Items others ∷ ws) live (Both s)
        (record {
          after = Both s;
          leads = leads_same (Both s);
          goes = (
            (all.0, pipe),
            record {
              after = o;
              leads = leads_same o;
              goes = (
                more,
                record { after = links_after o rest; leads = leads_same (links_after o rest); goes = ((F2, then_items), live.good.goes.1) },
              );
            },
          );
        })
        (both_holds d c status s e (front fs) (any_holds d c status q e (front fs) (live.good.leads status e (front fs) live.holds)))

    -- the next pipeline of an and-or list
    pub links_ok : (ls : p.Links) → Well base e fs status (Links ls ∷ ws) → Ok base e fs status (act_on e (front fs) status ws a (Links ls))
    unfolding act_on links GoodIn Good FrontGood links_after entries.links_entered around takes_link linked link_seen if_zero if_nonzero in_any_case
    links_ok p.no_links live = turns_to base e fs status status (Links p.no_links ∷ ws) ws live live.good.after live.good.goes.1 (live.good.leads status e (front fs) live.holds)
    links_ok (p.more_links l pipe rest) live = go l refl
      where
        q : After
        q = live.good.after

        known : AfterHolds d c status q e (front fs)
        known = live.good.leads status e (front fs) live.holds

        behind : Link → After
        behind k = pipeline_after (link_seen k q) pipe

        after : Link → After
        after k = linked k q (behind k)

        entered : (k : Link) → l ≡ k → i.Each (Stands d c defined) (entries.pipeline_entered F3 x (link_seen k q) pipe) × i.Each (Stands d c defined) (entries.links_entered x (after k) rest) × GoesOn base live.callers ws (links_after (after k) rest)
        entered k same =
            let all = live.good.goes in
            subst (λ k. i.Each (Stands d c defined) (entries.pipeline_entered F3 x (link_seen k q) pipe) × i.Each (Stands d c defined) (entries.links_entered x (after k) rest) × GoesOn base live.callers ws (links_after (after k) rest)) same
            (each_left (Stands d c defined) (entries.pipeline_entered F3 x (link_seen l q) pipe) _ all.0, each_right (Stands d c defined) (entries.pipeline_entered F3 x (link_seen l q) pipe) _ all.0, all.1)

        taken : (k : Link) → l ≡ k → OneHolds d c (link_seen k q) e (front fs) → Leads d c (pipeline_after (link_seen k q) pipe) (after k) → Ok base e fs status (goes e (front fs) status (Pipeline pipe ∷ Links rest ∷ ws))
        taken k same h leads =
            let all = entered k same in
            turns_to base e fs status status _ (Pipeline pipe ∷ Links rest ∷ ws) live (Both (link_seen k q))
            (record {
              after = Both (link_seen k q);
              leads = leads_same (Both (link_seen k q));
              goes = ((F3, all.0), record { after = after k; leads = leads; goes = (all.1, all.2) });
            })
            (both_holds d c status (link_seen k q) e (front fs) h)

        passed : (k : Link) → l ≡ k → AfterHolds d c status (after k) e (front fs) → Ok base e fs status (goes e (front fs) status (Links rest ∷ ws))
        passed k same h =
            let all = entered k same in
            turns_to base e fs status status _ (Links rest ∷ ws) live (after k) (record { after = after k; leads = leads_same (after k); goes = (all.1, all.2) }) h

        go : (k : Link) → l ≡ k → Ok base e fs status (goes e (front fs) status (if takes_link k status then Pipeline pipe ∷ Links rest ∷ ws else Links rest ∷ ws))
        go link.AndThen same = by (status == 0) refl
          where
            by : (b : Bool) → (status == 0) ≡ b → Ok base e fs status (goes e (front fs) status (if b then Pipeline pipe ∷ Links rest ∷ ws else Links rest ∷ ws))
            by true z = taken link.AndThen same (where_zero status q e (front fs) z known)
                (leads_each d c (behind link.AndThen) (after link.AndThen) (λ e f h. h) (λ e f h. one_right d c (if_nonzero q) (if_nonzero (behind link.AndThen)) e f h))
            by false z = passed link.AndThen same (nonzero_holds status (after link.AndThen) e (front fs) z (one_left d c (if_nonzero q) (if_nonzero (behind link.AndThen)) e (front fs) (where_nonzero status q e (front fs) z known)))
        go link.OrElse same = by (status == 0) refl
          where
            by : (b : Bool) → (status == 0) ≡ b → Ok base e fs status (goes e (front fs) status (if not b then Pipeline pipe ∷ Links rest ∷ ws else Links rest ∷ ws))
            by true z = passed link.OrElse same (zero_holds status (after link.OrElse) e (front fs) z (one_left d c (if_zero q) (if_zero (behind link.OrElse)) e (front fs) (where_zero status q e (front fs) z known)))
            by false z = taken link.OrElse same (where_nonzero status q e (front fs) z known)
                (leads_each d c (behind link.OrElse) (after link.OrElse) (λ e f h. one_right d c (if_zero q) (if_zero (behind link.OrElse)) e f h) (λ e f h. h))

    -- `!`
    pub negation_ok : Well base e fs status (Negation ∷ ws) → Ok base e fs status (act_on e (front fs) status ws a Negation)
    unfolding act_on GoodIn Good FrontGood swapped if_zero if_nonzero
    negation_ok live = go (status == 0) refl
      where
        q : After
        q = live.good.after

        known : AfterHolds d c status q e (front fs)
        known = live.good.leads status e (front fs) live.holds

        go : (b : Bool) → (status == 0) ≡ b → Ok base e fs status (goes e (front fs) (if b then 1 else 0) ws)
        go true z = turns_to base e fs status 1 _ ws live (swapped true q) live.good.goes (where_zero status q e (front fs) z known)
        go false z = turns_to base e fs status 0 _ ws live (swapped true q) live.good.goes (where_nonzero status q e (front fs) z known)

    -- Compound commands

    -- a list, and after it what the command claims
    pub list_goes : (is : p.Items) (o : After) (n : ℕ) (now : ℕ) (vs : List Work) → (live : Well base e fs status vs) → ItemsAt d c defined x o is → Leaves d c n (items_after o is)
        → GoesOn base live.callers ws (after_command n) → AfterHolds d c now o e (front fs) → Ok base e fs status (goes e (front fs) now (Items is ∷ ws))
    unfolding GoodIn Good FrontGood
    list_goes is o n now vs live entered leaves behind h =
        turns_to base e fs status now vs (Items is ∷ ws) live o
        (record { after = o; leads = leads_same o; goes = (entered, good_weaker base live.callers ws (items_after o is) (after_command n) (leaves_lead d c n (items_after o is) leaves) behind) })
        h

    pub if_ok : (n : ℕ) (branches : p.Branches) (otherwise : p.Otherwise) → Well base e fs status (If n branches otherwise ∷ ws) → Ok base e fs status (act_on e (front fs) status ws a (If n branches otherwise))
    unfolding act_on branch GoodIn Good FrontGood around in_any_case if_zero if_nonzero i.BranchesLeave i.OtherwiseLeaves entries.otherwise_seen entries.branches_entered entries.otherwise_entered
    if_ok n p.no_branches p.no_else live =
        let q = live.good.after in
        let known = any_holds d c status q e (front fs) (live.good.leads status e (front fs) live.holds) in
        turns_to base e fs status 0 _ ws live (after_command n) live.good.goes.1 (covers_at d c (AfterZero n) (in_any_case q) live.good.goes.0.leaves e (front fs) known)
    if_ok n p.no_branches (p.else_of list) live =
        let q = live.good.after in
        let known = any_holds d c status q e (front fs) (live.good.leads status e (front fs) live.holds) in
        list_goes list (Both (in_any_case q)) n status _ live (F6, live.good.goes.0.last) live.good.goes.0.leaves live.good.goes.1
        (both_holds d c status (in_any_case q) e (front fs) known)
    if_ok n (p.more_branches condition body rest) otherwise live =
        let s = in_any_case live.good.after in
        let known = any_holds d c status live.good.after e (front fs) (live.good.leads status e (front fs) live.holds) in
        let at_branches = live.good.goes.0 in
        let o = items_after (Both s) condition in
        let conditions = entries.items_entered F6 x (Both s) condition in
        let bodies = entries.items_entered F6 x (Both (if_zero o)) body in
        let two = each_left (Stands d c defined) (conditions ++ bodies) _ at_branches.inside in
        turns_to base e fs status status _ (Items condition ∷ Then n body rest otherwise ∷ ws) live (Both s)
        (record {
          after = Both s;
          leads = leads_same (Both s);
          goes = (
            (F6, each_left (Stands d c defined) conditions bodies two),
            record {
              after = o;
              leads = leads_same o;
              goes = (
                (F6, each_right (Stands d c defined) conditions bodies two),
                at_branches.leave.0,
                record {
                  inside = each_right (Stands d c defined) (conditions ++ bodies) _ at_branches.inside;
                  last = at_branches.last;
                  leave = at_branches.leave.1;
                  leaves = at_branches.leaves;
                },
                live.good.goes.1,
              );
            },
          );
        })
        (both_holds d c status s e (front fs) known)

    pub then_ok : (n : ℕ) (body : p.Items) (branches : p.Branches) (otherwise : p.Otherwise) → Well base e fs status (Then n body branches otherwise ∷ ws)
        → Ok base e fs status (act_on e (front fs) status ws a (Then n body branches otherwise))
    unfolding act_on GoodIn Good FrontGood around in_any_case
    then_ok n body branches otherwise live = go (status == 0) refl
      where
        q : After
        q = live.good.after

        known : AfterHolds d c status q e (front fs)
        known = live.good.leads status e (front fs) live.holds

        go : (b : Bool) → (status == 0) ≡ b → Ok base e fs status (goes e (front fs) status (if b then Items body ∷ ws else If n branches otherwise ∷ ws))
        go true z =
            list_goes body (Both (if_zero q)) n status (Then n body branches otherwise ∷ ws) live live.good.goes.0 live.good.goes.1 live.good.goes.3
            (both_holds d c status (if_zero q) e (front fs) (where_zero status q e (front fs) z known))
        go false z =
            turns_to base e fs status status (Then n body branches otherwise ∷ ws) (If n branches otherwise ∷ ws) live (Both (if_nonzero q))
            (record { after = Both (if_nonzero q); leads = leads_same (Both (if_nonzero q)); goes = (live.good.goes.2, live.good.goes.3) })
            (both_holds d c status (if_nonzero q) e (front fs) (where_nonzero status q e (front fs) z known))

    -- a loop: the condition, and the mark after it
    pub turn_goes : (n : ℕ) (kind : LoopKind) (condition body : p.Items) (last now : ℕ) (vs : List Work) → (live : Well base e fs status vs) → LoopAt d c defined x n kind condition body
        → GoesOn base live.callers ws (after_command n) → OneHolds d c (at (Head n)) e (front fs) → Ok base e fs status (goes e (front fs) now (Items condition ∷ Test n kind condition body last ∷ ws))
    unfolding GoodIn Good FrontGood around
    turn_goes n kind condition body last now vs live rules behind h =
        let o = items_after (Both (at (Head n))) condition in
        turns_to base e fs status now vs (Items condition ∷ Test n kind condition body last ∷ ws) live (Both (at (Head n)))
        (record {
          after = Both (at (Head n));
          leads = leads_same (Both (at (Head n)));
          goes = (rules.first, record { after = o; leads = leads_same o; goes = (leads_same o, rules, behind) });
        })
        (both_holds d c now (at (Head n)) e (front fs) h)

    pub again_ok : (n : ℕ) (kind : LoopKind) (condition body : p.Items) → Well base e fs status (Again n kind condition body ∷ ws)
        → Ok base e fs status (act_on e (front fs) status ws a (Again n kind condition body))
    unfolding act_on GoodIn Good FrontGood in_any_case
    again_ok n kind condition body live =
        let known = live.good.goes.0 status e (front fs) (live.good.leads status e (front fs) live.holds) in
        turn_goes n kind condition body status status _ live live.good.goes.1 live.good.goes.2 (any_holds d c status (Both (at (Head n))) e (front fs) known)

    -- the condition says that another turn comes, or that the loop ends
    pub test_ok : (n : ℕ) (kind : LoopKind) (condition body : p.Items) (last : ℕ) → Well base e fs status (Test n kind condition body last ∷ ws)
        → Ok base e fs status (act_on e (front fs) status ws a (Test n kind condition body last))
    unfolding act_on test GoodIn Good FrontGood around in_any_case loop_ends if_nonzero takes turns if_zero takes_turn
    test_ok n kind condition body last live = go kind refl
      where
        o : After
        o = items_after (Both (at (Head n))) condition

        known : AfterHolds d c status o e (front fs)
        known = live.good.goes.0 status e (front fs) (live.good.leads status e (front fs) live.holds)

        turn : OneHolds d c (turns kind o) e (front fs) → Ok base e fs status (goes e (front fs) status (Items body ∷ Again n kind condition body ∷ ws))
        turn h =
            let q = items_after (Both (turns kind o)) body in
            turns_to base e fs status status (Test n kind condition body last ∷ ws) (Items body ∷ Again n kind condition body ∷ ws) live (Both (turns kind o))
            (record {
              after = Both (turns kind o);
              leads = leads_same (Both (turns kind o));
              goes = (
                live.good.goes.1.turn,
                record {
                  after = q;
                  leads = leads_same q;
                  goes = (
                    leads_trans d c q (Both (in_any_case q)) (Both (at (Head n))) (leads_any d c q) (leads_both d c (in_any_case q) (at (Head n)) (covers_at d c (Head n) (in_any_case q) live.good.goes.1.rules.again)),
                    live.good.goes.1,
                    live.good.goes.2,
                  );
                },
              );
            })
            (both_holds d c status (turns kind o) e (front fs) h)

        ended : OneHolds d c (loop_ends kind o) e (front fs) → Ok base e fs status (goes e (front fs) last ws)
        ended h =
            turns_to base e fs status last (Test n kind condition body last ∷ ws) ws live (after_command n) live.good.goes.2
            (leaves_lead d c n (Both (loop_ends kind o)) live.good.goes.1.rules.leaves last e (front fs) (both_holds d c last (loop_ends kind o) e (front fs) h))

        by_kind : (k : LoopKind) → kind ≡ k → (b : Bool) → (status == 0) ≡ b → Ok base e fs status (if takes b k then goes e (front fs) status (Items body ∷ Again n kind condition body ∷ ws) else goes e (front fs) last ws)
        by_kind loop.While same true z = turn (subst (λ k. OneHolds d c (turns k o) e (front fs)) (sym same) (where_zero status o e (front fs) z known))
        by_kind loop.While same false z = ended (subst (λ k. OneHolds d c (loop_ends k o) e (front fs)) (sym same) (where_nonzero status o e (front fs) z known))
        by_kind loop.Until same true z = ended (subst (λ k. OneHolds d c (loop_ends k o) e (front fs)) (sym same) (where_zero status o e (front fs) z known))
        by_kind loop.Until same false z = turn (subst (λ k. OneHolds d c (turns k o) e (front fs)) (sym same) (where_nonzero status o e (front fs) z known))

        go : (k : LoopKind) → kind ≡ k → Ok base e fs status (if takes_turn k status then goes e (front fs) status (Items body ∷ Again n kind condition body ∷ ws) else goes e (front fs) last ws)
        go loop.While same = by_kind loop.While same (status == 0) refl
        go loop.Until same = by_kind loop.Until same (status == 0) refl

    -- `for`: the next field is the name's value
    pub for_fields_ok : (n : ℕ) (name : Text) (ts : List Text) (body : p.Items) → Well base e fs status (ForFields n name ts body ∷ ws)
        → Ok base e fs status (act_on e (front fs) status ws a (ForFields n name ts body))
    unfolding act_on for_fields GoodIn Good FrontGood around in_any_case
    for_fields_ok n name [] body live =
        let known = live.good.goes.0 status e (front fs) (live.good.leads status e (front fs) live.holds) in
        turns_to base e fs status status _ ws live (after_command n) live.good.goes.2 (leaves_lead d c n (Both (at (Head n))) live.good.goes.1.rules.leaves status e (front fs) known)
    for_fields_ok n name (t ∷ ts) body live = go a.assignment_fails
      where
        known : OneHolds d c (at (Head n)) e (front fs)
        known = any_holds d c status (Both (at (Head n))) e (front fs) (live.good.goes.0 status e (front fs) (live.good.leads status e (front fs) live.holds))

        now : Environment
        now = with_variable e name (Some t)

        grows : Grows e now
        grows = assigned_grows e name t

        s : Seen
        s = gaining_names (name ∷ []) (at (Head n))

        o : After
        o = items_after (Both s) body

        head : OneHolds d c s now (front fs)
        head = gain_holds d c (named (name ∷ [])) (at (Head n)) now (front fs) (has_name name now (front fs) live.good.goes.1.named (assigned_set e name t)) (one_grows d c (at (Head n)) e now (front fs) grows known)

        well : Well base now fs status (Items body ∷ ForFields n name ts body ∷ ws)
        well = record {
          known = Both s;
          callers = live.callers;
          good = record {
            after = Both s;
            leads = leads_same (Both s);
            goes = (
              live.good.goes.1.turn,
              record {
                after = o;
                leads = leads_same o;
                goes = (
                  leads_trans d c o (Both (in_any_case o)) (Both (at (Head n))) (leads_any d c o) (leads_both d c (in_any_case o) (at (Head n)) (covers_at d c (Head n) (in_any_case o) live.good.goes.1.rules.again)),
                  live.good.goes.1,
                  live.good.goes.2,
                );
              },
            );
          };
          holds = both_holds d c status s now (front fs) head;
          stays = stays_grow live.callers e now fs grows live.stays;
          bodies = live.bodies;
        }

        go : (b : Bool) → Ok base e fs status (if b then ends e (front fs) else goes now (front fs) status (Items body ∷ ForFields n name ts body ∷ ws))
        go true = step_ends base e e fs status (grows_refl e) live.bodies
        go false = step_goes base e now fs status status (Items body ∷ ForFields n name ts body ∷ ws) grows well
