-- Steps of compound commands: their redirections, and how each of them begins.
use Rattle.std.proofs.Common.{◌≡◌, ℕ, zero, suc, ◌==◌, Bool, true, false, not, if◌then◌else◌, List, [], ◌∷◌, Option, Some, is_some, bytes_eq, ◌⊎◌, inl, inr, refl, sym, subst, arith, ne_eqb}
use Rattle.std.proofs.lemmas.Bool.{and_parts, or_cases}
use Rattle.std.proofs.lemmas.Slice.Eq.{bytes_eq-Decides}
use Rattle.sh_tree.specs.standard.program.Syntax as p
use Rattle.sh_tree.specs.standard.program.Syntax.{Text}
use Rattle.sh_runs.specs.standard.runs.Environment.{Environment, Frame, is_one_of, put_text, with_function, copied}
use Rattle.sh_runs.specs.standard.runs.Answers.{Answer}
use Rattle.sh_runs.specs.standard.runs.Builtins.{nonzero}
use Rattle.sh_runs.specs.standard.runs.States.{State, fresh}
use Rattle.sh_runs.specs.standard.runs.Expansion.{in_one, expand}
use Rattle.sh_runs.specs.standard.runs.Steps.{opened, begun, over_words, redirected_before, failed_before, unless_ended, status_behind}
use Rattle.sh_runs.specs.standard.runs.Work.{Work, Items, Compound, If, ForWords, Clauses, Start, Effect, goes, ends, after_expansion}
use Rattle.sh_domain.specs.Entries.{Around, alone, behind_list}
use Rattle.sh_domain.specs.Facts.{Facts, NotReached, Known}
use Rattle.sh_domain.specs.Gains.{job, and_gains, word_gains, redirect_gains, redirects_gains}
use Rattle.sh_domain.specs.Views.{Certificate, Before, AfterZero, AfterNonzero, Lose, Define, Seen, After, Both, if_zero, if_nonzero, in_any_case, after_command, at, gaining, stepped, without_job, where_known, step}
use Rattle.sh_sound.specs.Holding.{Holds, Grows, OneHolds, Entails, Expanded}
use Rattle.sh_domain.specs.Inclusions as i
use Rattle.sh_sound.specs.Going.{around, front, RedirectsAt, ForWordsAt, ItemsAt, BodyOk, Bodies, KindAt, CompoundAt, FrontGood, Good, GoodIn, Stays, ProcessOk, StartOk, StartsOk, NextOk, StepOk}
use Rattle.sh_sound.proofs.HoldLemmas.{grows_refl, one_grows, one_stepped, covers_at, holds_gain, both_holds, leaves_lead}
use Rattle.sh_sound.proofs.ExpansionLemmas.{without_job_holds}
use Rattle.sh_sound.proofs.ListLemmas.{began_alone, good_in, step_goes, step_ends, turned, turns_to, turn_goes, leads_same, stays_grow, nonzero_holds, frame_stays, same_frames}
use Rattle.sh_sound.proofs.StepLemmas.{goes_plain, ends_plain, word_expands, behind_word, expanded_ok, grown, word_step}
use Rattle.sh_sound.proofs.CaseLemmas.{gain_two, fields_ok}

pub is_nonzero : (n : ℕ) → (nonzero n == 0) ≡ false
unfolding nonzero
is_nonzero zero = refl
is_nonzero (suc n) = ne_eqb (suc n) 0 (λ h. omega arith)

put_stays : {A : Type 0} (b : Bool) (v : A) (o : Option A) → (b ≡ true) ⊎ (is_some o ≡ true) → is_some (if b then Some v else o) ≡ true
put_stays true v o h = refl
put_stays false v o (inl h) = cc
put_stays false v o (inr h) = h

defined_grows : (e : Environment) (name : Text) (body : p.Command) → Grows e (with_function e name (Some body))
unfolding put_text
defined_grows e name body = record { variables = λ t i h. h; functions = λ t i h. put_stays (bytes_eq t name) body (e.functions t) (inr h); job = λ h. h }

defined_holds : (c : Certificate) (x : Facts) (e : Environment) (f : Frame) (name : Text) (body : p.Command) → Holds x e f → Holds (step c (Define name) x) (with_function e name (Some body)) f
unfolding Holds step where_known put_text
defined_holds c NotReached e f name body h = h
defined_holds c (Known v g n) e f name body h = record {
  variables = h.variables;
  job = h.job;
  functions = λ t k s. elim (or_cases (bytes_eq name t) (g t) s) [
    | inl same ↦ put_stays (bytes_eq t name) body (e.functions t) (inl ((bytes_eq-Decides t name).1 (sym ((bytes_eq-Decides name t).0 same))))
    | inr known ↦ put_stays (bytes_eq t name) body (e.functions t) (inr (h.functions t k known))
  ];
  parameters = h.parameters;
}

module _ (d : Facts) (c : Certificate) (defined : List Text) where
  -- without `!` less is claimed
  pub lose_job : (s : Seen) → Entails d c s (without_job s)
  unfolding Holds step where_known
  lose_job s e f h = one_stepped d c (Lose (record { vars = job ∷ []; functions = [] })) s e e f f go h
    where
      go : (y : Facts) → Holds y e f → Holds (step c (Lose (record { vars = job ∷ []; functions = [] })) y) e f
      go NotReached k = k
      go (Known v g n) k = record {
        variables = λ t i s. k.variables t i (and_parts (v t) (not (is_one_of (job ∷ []) t)) s).0;
        job = λ s. k.job (and_parts (v job) (not (is_one_of (job ∷ []) job)) s).0;
        functions = λ t i s. k.functions t i (and_parts (g t) (not (is_one_of [] t)) s).0;
        parameters = k.parameters;
      }

  define_bodies : (g : Text → Option p.Command) (name : Text) (body : p.Command) → BodyOk d c defined name body → Bodies d c defined g → Bodies d c defined (put_text g name (Some body))
  unfolding put_text
  define_bodies g name body ok bodies t b h = go (bytes_eq t name) refl h
    where
      go : (same : Bool) → bytes_eq t name ≡ same → (if same then Some body else g t) ≡ Some b → BodyOk d c defined t b
      go true s k =
          let is : body ≡ b = cc in
          subst (λ u. BodyOk d c defined u b) (sym ((bytes_eq-Decides t name).0 s)) (subst (λ u. BodyOk d c defined name u) is ok)
      go false s k = bodies t b k

  -- what a redirection gains is what its word does
  by_word : (r : p.Redirect) (s : Seen) (rest : p.Redirects) → RedirectsAt d c defined (gaining (redirect_gains r) s) rest → RedirectsAt d c defined (gaining (word_gains (opened r)) s) rest
  unfolding redirect_gains opened
  by_word (p.File w) s rest k = k
  by_word (p.Here w) s rest k = k

  by_gains : (r : p.Redirect) (rest : p.Redirects) (s : Seen) (e : Environment) (f : Frame)
      → OneHolds d c (gaining (and_gains (word_gains (opened r)) (redirects_gains rest)) s) e f → OneHolds d c (gaining (and_gains (redirect_gains r) (redirects_gains rest)) s) e f
  unfolding redirect_gains opened
  by_gains (p.File w) rest s e f k = k
  by_gains (p.Here w) rest s e f k = k

  module _ (SimpleAt : Around → Work → Seen → Type 0) where
    abbrev Well : Around → Environment → List Frame → ℕ → List Work → Type 0
    Well base e fs status ws = ProcessOk d c defined SimpleAt base e fs status ws

    abbrev Ok : Around → Environment → List Frame → ℕ → Effect → Type 0
    Ok base e fs status x = StepOk d c defined SimpleAt base e fs status x

    -- a process that is started with other work
    pub starts_ok : (base : Around) (e : Environment) (fs : List Frame) (status now : ℕ) (ws : List Work) (xs : List Start) → Well base e fs now ws
        → i.Each (StartOk d c defined SimpleAt e (front fs) status (Some (now, ws))) xs → Ok base e fs status (record (goes e (front fs) now ws) { starts = xs })
    unfolding NextOk StartsOk
    starts_ok base e fs status now ws xs live h = record {
      quiet = refl;
      next = λ k. subst (λ gs. Well base e gs now ws) (sym (same_frames d c defined SimpleAt fs)) live;
      starts = h;
      grows = λ k. grows_refl e;
      frame = λ k. frame_stays d c defined SimpleAt fs;
    }

    -- a copy that does a list
    pub list_starts : (e : Environment) (f : Frame) (status : ℕ) (b : Bool) (s : Seen) (is : p.Items) → Bodies d c defined e.functions → OneHolds d c s e f
        → ItemsAt d c defined alone (Both (without_job s)) is → Well alone (copied b e) (f ∷ []) status (Items is ∷ [])
    unfolding GoodIn Good FrontGood Stays front around
    list_starts e f status b s is bodies h rules = record {
      known = Both (without_job s);
      callers = [];
      good = record { after = Both (without_job s); leads = leads_same d c defined SimpleAt (Both (without_job s)); goes = (rules, began_alone) };
      holds = both_holds d c status (without_job s) (copied b e) f (without_job_holds d c defined s b e f h);
      stays = (f, refl);
      bodies = bodies;
    }

    module _ (base : Around) (e : Environment) (fs : List Frame) (status : ℕ) (ws : List Work) (a : Answer) where
      abbrev x : Around
      x = around base ws

      abbrev Behind : List Facts → After → Type 0
      Behind callers o = Good d c defined SimpleAt base callers ws o

      over_words_ok : (n : ℕ) (name : Text) (words : p.ForWords) (body : p.Items) (s : Seen) (vs : List Work) (live : Well base e fs status vs)
          → KindAt d c defined x n (p.For name words body) s (λ r. Behind live.callers r) → OneHolds d c s e (front fs) → Behind live.callers (after_command n)
          → Ok base e fs status (over_words e (front fs) status ws a n name words body)
      unfolding over_words KindAt ForWordsAt GoodIn Good FrontGood in_any_case behind_list
      over_words_ok n name p.every_parameter body s vs live needs h behind =
          fields_ok d c defined SimpleAt base e fs status ws a n name (front fs) body vs live needs.2 behind (needs.1 e (front fs) h)
      over_words_ok n name (p.listed words) body s vs live needs h behind =
          turns_to d c defined SimpleAt base e fs status status vs (ForWords n name words [] body ∷ ws) live (Both s)
          (record { after = Both s; leads = leads_same d c defined SimpleAt (Both s); goes = (needs.0, needs.1, needs.2, behind) })
          (both_holds d c status s e (front fs) h)

      pub begun_ok : (n : ℕ) (kind : p.Kind) (s : Seen) (vs : List Work) (live : Well base e fs status vs) → KindAt d c defined x n kind s (λ r. Behind live.callers r)
          → OneHolds d c s e (front fs) → OneHolds d c (at (Before n)) e (front fs) → Behind live.callers (after_command n) → Ok base e fs status (begun e (front fs) status ws a n kind)
      unfolding begun KindAt GoodIn Good FrontGood in_any_case i.Each StartOk if_zero
      begun_ok n (p.Simple es) s vs live needs h first behind = absurd needs
      begun_ok n (p.Group list) s vs live needs h first behind =
          turns_to d c defined SimpleAt base e fs status status vs (Items list ∷ ws) live (Both s)
          (record { after = Both s; leads = leads_same d c defined SimpleAt (Both s); goes = needs })
          (both_holds d c status s e (front fs) h)
      begun_ok n (p.Subshell list) s vs live needs h first behind =
          starts_ok base e fs status a.status ws _
          (turned d c defined SimpleAt base e fs status a.status vs ws live (after_command n) behind
          (leaves_lead d c n (Both (at (Before n))) needs.1 a.status e (front fs) (both_holds d c a.status (at (Before n)) e (front fs) first)))
          ((alone, list_starts e (front fs) status (a.carries 0) (at (Before n)) list live.bodies first needs.0), tt)
      begun_ok n (p.Conditional branches otherwise) s vs live needs h first behind =
          turns_to d c defined SimpleAt base e fs status status vs (If n branches otherwise ∷ ws) live (Both s)
          (record { after = Both s; leads = leads_same d c defined SimpleAt (Both s); goes = (needs, behind) })
          (both_holds d c status s e (front fs) h)
      begun_ok n (p.Loop kind condition body) s vs live needs h first behind =
          turn_goes d c defined SimpleAt base e fs status ws a n kind condition body 0 status vs live needs.1 behind (needs.0 e (front fs) h)
      begun_ok n (p.For name words body) s vs live needs h first behind = over_words_ok n name words body s vs live needs h behind
      begun_ok n (p.Case w cs) s vs live needs h first behind =
          word_step d c defined SimpleAt base e fs status ws a s in_one w false (λ t. status_behind t status a) vs (Clauses n cs ∷ ws) live needs.0 h (Both (gaining (word_gains w) s))
          (λ k. record { after = Both (gaining (word_gains w) s); leads = leads_same d c defined SimpleAt (Both (gaining (word_gains w) s)); goes = (([], needs.1), needs.2, behind) })
          (λ e' m k. both_holds d c m (gaining (word_gains w) s) e' (front fs) k)
      begun_ok n (p.Define name body) s vs live needs h first behind =
          let now = with_function e name (Some body) in
          let grows = defined_grows e name body in
          step_goes d c defined SimpleAt base e now fs status 0 ws grows
          (record {
            known = after_command n;
            callers = live.callers;
            good = good_in d c defined SimpleAt (front fs) base live.callers ws (after_command n) behind;
            holds = covers_at d c (AfterZero n) (stepped (Define name) (at (Before n))) needs.0 now (front fs)
                (one_stepped d c (Define name) (at (Before n)) e now (front fs) (front fs) (λ y k. defined_holds c y e (front fs) name body k) first);
            stays = stays_grow d c defined SimpleAt live.callers e now fs grows live.stays;
            bodies = define_bodies e.functions name body needs.1 live.bodies;
          })

      -- the next redirection
      pub redirected_ok : (n : ℕ) (r : p.Redirect) (rest : p.Redirects) (kind : p.Kind) (s : Seen) (vs : List Work) (live : Well base e fs status vs)
          → CompoundAt d c defined x n (p.more_redirects r rest) kind s (λ r. Behind live.callers r) → OneHolds d c s e (front fs) → Behind live.callers (after_command n)
          → Ok base e fs status (redirected_before e (front fs) status ws a (expand (front fs) status in_one (opened r) (fresh e a.given)).state (Compound n rest kind ∷ ws))
      unfolding redirected_before failed_before RedirectsAt GoodIn Good FrontGood in_any_case redirect_gains redirects_gains opened if_nonzero
      redirected_ok n r rest kind s vs live needs h behind = go a.redirection_fails
        where
          t : State
          t = (expand (front fs) status in_one (opened r) (fresh e a.given)).state

          does : Expanded d c defined (front fs) (word_gains (opened r)) (fresh e a.given) t
          does = word_expands d c defined SimpleAt base e fs status ws a s in_one (opened r) needs.redirects.0 h

          later : t.ended ≡ false → OneHolds d c (gaining (word_gains (opened r)) s) t.environment (front fs)
          later l = behind_word d c defined SimpleAt base e fs status ws a s (opened r) t h does l

          claimed : OneHolds d c s t.environment (front fs) → OneHolds d c (at (AfterNonzero n)) t.environment (front fs)
          claimed k = elim needs.failed [ inl f ↦ f t.environment (front fs) k | inr none ↦ cc ]

          failed : (b : Bool) → Ok base e fs status (after_expansion t false (if b then ends t.environment (front fs) else goes t.environment (front fs) (nonzero a.status) ws))
          failed true =
              expanded_ok d c defined SimpleAt base e fs status ws a t false (ends t.environment (front fs)) live.bodies does (ends_plain d c defined SimpleAt fs t.environment)
              (λ k. step_ends d c defined SimpleAt base e t.environment fs status does.grows (subst (Bodies d c defined) (sym does.functions) live.bodies)) (λ k. does.grows)
          failed false =
              expanded_ok d c defined SimpleAt base e fs status ws a t false (goes t.environment (front fs) (nonzero a.status) ws) live.bodies does (goes_plain d c defined SimpleAt fs t.environment (nonzero a.status) ws)
              (λ k. step_goes d c defined SimpleAt base e t.environment fs status (nonzero a.status) ws does.grows
              (grown d c defined SimpleAt base e fs status ws a t.environment (nonzero a.status) vs ws live (after_command n) does.grows does.functions behind
              (nonzero_holds d c defined SimpleAt (nonzero a.status) (after_command n) t.environment (front fs) (is_nonzero a.status)
              (claimed (one_grows d c s e t.environment (front fs) does.grows h)))))
              (λ k. does.grows)

          next : Work
          next = Compound n rest kind

          b : Seen
          b = gaining (word_gains (opened r)) s

          next_at : CompoundAt d c defined x n rest kind b (λ r. Behind live.callers r)
          next_at = record {
            redirects = by_word r s rest needs.redirects.1;
            failed = elim needs.failed [ inl f ↦ inl (λ e' f' k. f e' f' (holds_gain d c (word_gains (opened r)) s e' f' k)) | inr none ↦ cc ];
            first = λ e' f' k. needs.first e' f' (holds_gain d c (word_gains (opened r)) s e' f' k);
            behind = needs.behind;
            through = λ e' f' k. needs.through e' f' (by_gains r rest s e' f' (gain_two d c defined (word_gains (opened r)) (redirects_gains rest) s e' f' k));
            needs = needs.needs;
          }

          go : (b : Bool) → Ok base e fs status (after_expansion t false
              (if b then (if a.redirection_ends then ends t.environment (front fs) else goes t.environment (front fs) (nonzero a.status) ws)
              else unless_ended e (front fs) status ws a t (goes t.environment (front fs) (status_behind t status a) (Compound n rest kind ∷ ws))))
          go true = failed a.redirection_ends
          go false =
              word_step d c defined SimpleAt base e fs status ws a s in_one (opened r) false (λ t. status_behind t status a) vs (next ∷ ws) live needs.redirects.0 h (Both (gaining (word_gains (opened r)) s))
              (λ k. record { after = Both (gaining (word_gains (opened r)) s); leads = leads_same d c defined SimpleAt (Both (gaining (word_gains (opened r)) s)); goes = (next_at, behind) })
              (λ e' m k. both_holds d c m (gaining (word_gains (opened r)) s) e' (front fs) k)
