-- Steps of the redirections and assignments of simple commands.
use Rattle.std.proofs.Common.{◌≡◌, ℕ, ◌==◌, Bool, true, false, ◌&&◌, if◌then◌else◌, Option, Some, None, is_some, List, [], ◌∷◌, map, refl, sym, ap, subst, ◌∙◌, ◌⊎◌, inl, inr}
use Rattle.std.proofs.lemmas.Bool.{and_parts, false≢true}
use Rattle.sh_tree.specs.standard.language.Bytes.{is_name}
use Rattle.sh_tree.specs.standard.program.Syntax as p
use Rattle.sh_tree.specs.standard.program.Syntax.{Text}
use Rattle.sh_tree.specs.standard.program.Words.{Assignments, redirects_in, assignments_in}
use Rattle.sh_runs.specs.standard.Kinds.{kind_of, is_declaration}
use Rattle.sh_runs.specs.declared.kind.Kind.{Kind}
use Rattle.sh_runs.specs.declared.kind.Kind.TheVariants as kind
use Rattle.sh_runs.specs.standard.runs.Environment.{Environment, Frame, is_one_of, with_variable}
use Rattle.sh_runs.specs.standard.runs.Answers.{Answer}
use Rattle.sh_runs.specs.standard.runs.Builtins.{nonzero}
use Rattle.sh_runs.specs.standard.runs.Expansion.{in_one, Outcome, pieces_text, expand}
use Rattle.sh_runs.specs.standard.runs.States.{State, fresh}
use Rattle.sh_runs.specs.standard.runs.Steps.{opened, Manner, Nameless, Special, Named, named_manner, manner, status_behind, may_copy, invoked, unless_ended, failed_in, redirected, assignment}
use Rattle.sh_runs.specs.standard.runs.Work.{Simple, Work, Prepare, Utility, Call, Effect, goes, after_expansion}
use Rattle.sh_domain.specs.Entries.{Around}
use Rattle.sh_domain.specs.Facts.{Facts, NotReached, Known, Function, claims}
use Rattle.sh_domain.specs.Gains.{Gains, named, and_gains, word_gains, redirect_gains, redirects_gains}
use Rattle.sh_domain.specs.Inclusions.{Leaves, SimpleRules, behind}
use Rattle.sh_domain.specs.Table as table
use Rattle.sh_domain.specs.Table.{after_nameless, prefixes, is_special, values_gains, is_redirected, assignments_gains}
use Rattle.sh_domain.specs.Views.{Certificate, Seen, Both, in_any_case, if_zero, if_nonzero, after_command, gaining, gaining_names}
use Rattle.sh_sound.specs.Holding.{Holds, Has, Grows, OneHolds, Entails, Expanded}
use Rattle.sh_sound.specs.Going.{around, front, unset_before, Bodies, FrontGood, Good, GoodIn, ProcessOk, StepOk}
use Rattle.sh_sound.specs.Fields.{Fields, FieldsFit}
use Rattle.sh_sound.specs.Doing.{RulesAt, names_of, left_gains, behind_facts, parameters, EachOpened, EachValue, LeftAt, Settles, PrepareStage, UtilityStage, CallStage, SimpleAt}
use Rattle.sh_sound.proofs.CallLemmas.{behind_known}
use Rattle.sh_sound.proofs.HoldLemmas.{has_nothing, leaves_lead, grows_refl, grows_trans, has_both, has_first, has_second, gain_holds, holds_gain, has_gain, both_holds, one_grows}
use Rattle.sh_sound.proofs.ExpansionLemmas.{has_name, assigned_grows, assigned_set}
use Rattle.sh_sound.proofs.ListLemmas.{leads_same, step_goes, turns_to}
use Rattle.sh_sound.proofs.StepLemmas.{word_expands, behind_word, grown, grown_in}
use Rattle.sh_sound.proofs.FieldsLemmas.{counted_fits}
use Rattle.sh_sound.proofs.WordsLemmas.{gaining_entails}
use Rattle.sh_sound.proofs.MannerLemmas.{BehindName, behind_name, nameless_manner, call_manner, rules_by, ordinary_nonzero, nameless_nonzero, word_from}
use Rattle.sh_sound.proofs.RedirectLemmas.{Fine, either_fine, ends_fine, goes_fine, behind_fine, unless_fine, redirected_fine, fails_fine, Fails, failed_fine}

-- a function and another utility keep their assignments for later
unfoldable pub may_prefix : Manner → Bool
may_prefix (Named t ts) = true
may_prefix _ = false

-- only special built-in utilities are declaration utilities
pub no_declaration : (k : Kind) → is_special k ≡ false → is_declaration k ≡ false
unfolding is_special is_declaration
no_declaration (kind.Special name) h = cc
no_declaration k h = refl

module _ (d : Facts) (c : Certificate) (defined : List Text) where
  -- Gains of what is left

  -- an assignment gains what its value does, and its name
  left_more : (x : Text × p.Word) (xs : Assignments) (e : Environment) (f : Frame) → Has (word_gains x.1) e f → Has (named (x.0 ∷ [])) e f → Has (left_gains xs) e f → Has (left_gains (x ∷ xs)) e f
  unfolding values_gains
  left_more x xs e f h n k =
      let values = has_first (values_gains xs) (named (names_of xs)) e f k in
      let names = has_second (values_gains xs) (named (names_of xs)) e f k in
      has_both (and_gains (word_gains x.1) (values_gains xs)) (named (x.0 ∷ names_of xs)) e f (has_both (word_gains x.1) (values_gains xs) e f h values)
      (has_both (named (x.0 ∷ [])) (named (names_of xs)) e f n names)

  opened_gains : (r : p.Redirect) → word_gains (opened r) ≡ redirect_gains r
  unfolding opened redirect_gains
  opened_gains (p.File w) = refl
  opened_gains (p.Here w) = refl

  -- what is seen when an assignment is done
  abbrev pub assigned_seen : Text × p.Word → Seen → Seen
  assigned_seen x s = gaining_names (x.0 ∷ []) (gaining (word_gains x.1) s)

  assigned_entails : (x : Text × p.Word) (s : Seen) → Entails d c (assigned_seen x s) s
  assigned_entails x s e f h = holds_gain d c (word_gains x.1) s e f (holds_gain d c (named (x.0 ∷ [])) (gaining (word_gains x.1) s) e f h)

  assigned_left : (x : Text × p.Word) (xs : Assignments) (s : Seen) (e : Environment) (f : Frame) → OneHolds d c (assigned_seen x s) e f → Has (left_gains xs) e f → Has (left_gains (x ∷ xs)) e f
  assigned_left x xs s e f h k =
      let behind_value = holds_gain d c (named (x.0 ∷ [])) (gaining (word_gains x.1) s) e f h in
      left_more x xs e f (has_gain d c (word_gains x.1) s e f behind_value) (has_gain d c (named (x.0 ∷ [])) (gaining (word_gains x.1) s) e f h) k

  -- it goes on settling, with an assignment less
  settles_assigned : (m : Manner) (n : ℕ) (es : p.Elements) (rs : p.Redirects) (x : Text × p.Word) (xs : Assignments) (s : Seen) → may_prefix m ≡ false
      → Settles d c defined m n es rs (x ∷ xs) s → Settles d c defined m n es rs xs (assigned_seen x s)
  unfolding Settles may_prefix
  settles_assigned Nameless n es rs x xs s o h = λ e f k.
      let first = holds_gain d c (left_gains xs) (assigned_seen x s) e f k in
      h e f (gain_holds d c (left_gains (x ∷ xs)) s e f (assigned_left x xs s e f first (has_gain d c (left_gains xs) (assigned_seen x s) e f k)) (assigned_entails x s e f first))
  settles_assigned (Special t ts) n es rs x xs s o h = λ e f k.
      let g = and_gains (left_gains xs) (redirects_gains rs) in
      let first = holds_gain d c g (assigned_seen x s) e f k in
      let has = has_gain d c g (assigned_seen x s) e f k in
      let all = has_both (left_gains (x ∷ xs)) (redirects_gains rs) e f (assigned_left x xs s e f first (has_first (left_gains xs) (redirects_gains rs) e f has)) (has_second (left_gains xs) (redirects_gains rs) e f has) in
      h e f (gain_holds d c (and_gains (left_gains (x ∷ xs)) (redirects_gains rs)) s e f all (assigned_entails x s e f first))
  settles_assigned (Named t ts) n es rs x xs s o h = cc

  -- with a redirection less, which was not expanded in a copy
  settles_redirected : (m : Manner) (n : ℕ) (es : p.Elements) (r : p.Redirect) (rs : p.Redirects) (xs : Assignments) (s : Seen)
      → Settles d c defined m n es (p.more_redirects r rs) xs s → Settles d c defined m n es rs xs (gaining (word_gains (opened r)) s)
  unfolding Settles redirects_gains
  settles_redirected Nameless n es r rs xs s h = λ e f k.
      let first = holds_gain d c (left_gains xs) (gaining (word_gains (opened r)) s) e f k in
      h e f (gain_holds d c (left_gains xs) s e f (has_gain d c (left_gains xs) (gaining (word_gains (opened r)) s) e f k) (holds_gain d c (word_gains (opened r)) s e f first))
  settles_redirected (Special t ts) n es r rs xs s h = λ e f k.
      let b = gaining (word_gains (opened r)) s in
      let g = and_gains (left_gains xs) (redirects_gains rs) in
      let first = holds_gain d c g b e f k in
      let has = has_gain d c g b e f k in
      let opens : Has (redirect_gains r) e f = subst (λ g. Has g e f) (opened_gains r) (has_gain d c (word_gains (opened r)) s e f first) in
      let redirects = has_both (redirect_gains r) (redirects_gains rs) e f opens (has_second (left_gains xs) (redirects_gains rs) e f has) in
      let all = has_both (left_gains xs) (and_gains (redirect_gains r) (redirects_gains rs)) e f (has_first (left_gains xs) (redirects_gains rs) e f has) redirects in
      h e f (gain_holds d c (and_gains (left_gains xs) (and_gains (redirect_gains r) (redirects_gains rs))) s e f all (holds_gain d c (word_gains (opened r)) s e f first))
  settles_redirected (Named t ts) n es r rs xs s h = h

  -- and in a copy, in which a special built-in utility expands none
  settles_copied : (m : Manner) (n : ℕ) (es : p.Elements) (r : p.Redirect) (rs : p.Redirects) (xs : Assignments) (s : Seen) → may_copy m ≡ true
      → Settles d c defined m n es (p.more_redirects r rs) xs s → Settles d c defined m n es rs xs s
  unfolding Settles may_copy
  settles_copied Nameless n es r rs xs s o h = h
  settles_copied (Special t ts) n es r rs xs s o h = cc
  settles_copied (Named t ts) n es r rs xs s o h = h

  abbrev Well : Around → Environment → List Frame → ℕ → List Work → Type 0
  Well base e fs status ws = ProcessOk d c defined (SimpleAt d c defined) base e fs status ws

  abbrev Ok : Around → Environment → List Frame → ℕ → Effect → Type 0
  Ok base e fs status x = StepOk d c defined (SimpleAt d c defined) base e fs status x

  module _ (base : Around) (e : Environment) (fs : List Frame) (status : ℕ) (ws : List Work) (a : Answer) where
    abbrev f : Frame
    f = front fs

    abbrev x : Around
    x = around base ws

    abbrev FineStep : Effect → Type 0
    FineStep y = Fine d c defined (SimpleAt d c defined) base e fs status ws a y

    abbrev Behind : List Facts → ℕ → Type 0
    Behind callers n = Good d c defined (SimpleAt d c defined) base callers ws (after_command n)

    -- the rest of the redirections and assignments
    prepares_fine : (k : Simple) (fields : List Text) (rs : p.Redirects) (xs : Assignments) (failed : Bool) (e' : Environment) (now : ℕ) (vs : List Work) (live : Well base e fs status vs) → Grows e e'
        → e'.functions ≡ e.functions → (s : Seen) → PrepareStage d c defined x k fields rs xs failed s → OneHolds d c s e' f → Behind live.callers k.number
        → FineStep (goes e' f now (Prepare k fields rs xs failed ∷ ws))
    unfolding Good FrontGood SimpleAt in_any_case
    prepares_fine k fields rs xs failed e' now vs live g same s stage h behind =
        goes_fine d c defined (SimpleAt d c defined) base e fs status ws a e' now (Prepare k fields rs xs failed ∷ ws) g
        (grown d c defined (SimpleAt d c defined) base e fs status ws a e' now vs (Prepare k fields rs xs failed ∷ ws) live (Both s) g same
        (record { after = Both s; leads = leads_same d c defined (SimpleAt d c defined) (Both s); goes = (stage, behind) })
        (both_holds d c now s e' f h))

    -- what is claimed where a redirection fails
    fails_at : (n : ℕ) (es : p.Elements) (m : ℕ) (fields : List Text) → FieldsFit m es [] fields → RulesAt d c defined x n es → is_redirected (redirects_in es) ≡ true
        → (e' : Environment) → OneHolds d c (behind d c n es) e' f → Fails d c defined (SimpleAt d c defined) base e fs status ws a (manner fields) n e'
    unfolding Fails manner named_manner FieldsFit is_special
    fails_at n es m [] b r h e' k = nameless_nonzero d c defined x n es m b r h e' f k
    fails_at n es m (t ∷ ts) b r h e' k = go (kind_of t) refl
      where
        go : (v : Kind) → kind_of t ≡ v → Fails d c defined (SimpleAt d c defined) base e fs status ws a (named_manner v t ts) n e'
        go (kind.Special name) q = tt
        go v q = ordinary_nonzero d c defined x n es m t ts (behind_name m es t ts b) r (ap is_special q) h e' f k

    -- the next redirection
    pub redirect_ok : (k : Simple) (fields : List Text) (r : p.Redirect) (rest : p.Redirects) (xs : Assignments) (failed : Bool) (s : Seen) (vs : List Work) (live : Well base e fs status vs)
        → PrepareStage d c defined x k fields (p.more_redirects r rest) xs failed s → OneHolds d c s e f → Behind live.callers k.number
        → let t = (expand f status in_one (opened r) (fresh e a.given)).state in
        Ok base e fs status
        (after_expansion t false
        (redirected e f status ws a (a.redirection_in_copy && may_copy (manner fields)) t (Prepare k fields rest xs failed ∷ ws)
        (λ d'. failed_in e f status ws a (manner fields) d' (Prepare k fields rest xs true ∷ ws))))
    unfolding EachOpened is_redirected may_copy
    redirect_ok k fields r rest xs failed s vs live stage h goes_on =
        behind_fine d c defined (SimpleAt d c defined) base e fs status ws a t _ live.bodies does
        (redirected_fine d c defined (SimpleAt d c defined) base e fs status ws a (a.redirection_in_copy && may_copy m) t (Prepare k fields rest xs failed ∷ ws) _ live.bodies does.grows does.functions fails
        (λ q. prepares_fine k fields rest xs failed e (status_behind t status a) vs live (grows_refl e) refl s
        (stays failed (settles_copied m k.number k.elements r rest xs s (and_parts a.redirection_in_copy (may_copy m) q).1 stage.settles) stage.was_redirected) h goes_on)
        (λ q l. prepares_fine k fields rest xs failed t.environment (status_behind t status a) vs live does.grows does.functions (gaining g s) (later (settles_redirected m k.number k.elements r rest xs s stage.settles))
        (behind_word d c defined (SimpleAt d c defined) base e fs status ws a s (opened r) t h does l) goes_on))
      where
        m : Manner
        m = manner fields

        g : Gains
        g = word_gains (opened r)

        t : State
        t = (expand f status in_one (opened r) (fresh e a.given)).state

        left : LeftAt d c defined k.number k.elements (p.more_redirects r rest) xs s
        left = stage.left

        does : Expanded d c defined f g (fresh e a.given) t
        does = word_expands d c defined (SimpleAt d c defined) base e fs status ws a s in_one (opened r) (word_from d c defined s (behind d c k.number k.elements) (opened r) left.behind_words left.opened.0) h

        some : is_redirected (redirects_in k.elements) ≡ true
        some = left.redirected refl

        stays : (failing : Bool) → Settles d c defined m k.number k.elements rest xs s → (failing ≡ true → is_redirected (redirects_in k.elements) ≡ true) → PrepareStage d c defined x k fields rest xs failing s
        stays failing settles was = record {
          rules = stage.rules;
          fits = stage.fits;
          left = record { behind_words = left.behind_words; opened = left.opened.1; values = left.values; redirected = λ q. some };
          settles = settles;
          was_redirected = was;
        }

        later : Settles d c defined m k.number k.elements rest xs (gaining g s) → PrepareStage d c defined x k fields rest xs failed (gaining g s)
        later settles = record {
          rules = stage.rules;
          fits = stage.fits;
          left = record { behind_words = λ e' f' o. left.behind_words e' f' (holds_gain d c g s e' f' o); opened = left.opened.1; values = left.values; redirected = λ q. some };
          settles = settles;
          was_redirected = stage.was_redirected;
        }

        fails : (e' : Environment) → Grows e e' → e'.functions ≡ e.functions → FineStep (failed_in e f status ws a m e' (Prepare k fields rest xs true ∷ ws))
        fails e' grows same =
            failed_fine d c defined (SimpleAt d c defined) base e fs status ws a m k.number vs live e' (Prepare k fields rest xs true ∷ ws) grows same goes_on
            (fails_at k.number k.elements _ fields stage.fits stage.rules some e' (left.behind_words e' f (one_grows d c s e e' f grows h)))
            (λ q. prepares_fine k fields rest xs true e' status vs live grows same s
            (stays true (settles_copied m k.number k.elements r rest xs s (copies q) stage.settles) (λ w. some)) (one_grows d c s e e' f grows h) goes_on)
          where
            copies : m ≡ Nameless → may_copy m ≡ true
            copies q = ap may_copy q

    -- the next assignment
    pub assign_ok : (k : Simple) (fields : List Text) (rs : p.Redirects) (y : Text × p.Word) (rest : Assignments) (failed : Bool) (s : Seen) (vs : List Work) (live : Well base e fs status vs)
        → may_prefix (manner fields) ≡ false → PrepareStage d c defined x k fields rs (y ∷ rest) failed s → OneHolds d c s e f → Behind live.callers k.number
        → let o = expand f status in_one y.1 (fresh e a.given) in
        Ok base e fs status (after_expansion o.state false (unless_ended e f status ws a o.state (assignment e f status ws a y.0 o (Prepare k fields rs rest failed ∷ ws))))
    unfolding EachValue assignment
    assign_ok k fields rs y rest failed s vs live ordinary stage h goes_on =
        behind_fine d c defined (SimpleAt d c defined) base e fs status ws a t _ live.bodies does
        (unless_fine d c defined (SimpleAt d c defined) base e fs status ws a t _ does.grows (subst (Bodies d c defined) (sym does.functions) live.bodies)
        (λ l. either_fine d c defined (SimpleAt d c defined) base e fs status ws a a.assignment_fails _ _
        (λ q. ends_fine d c defined (SimpleAt d c defined) base e fs status ws a t.environment does.grows (subst (Bodies d c defined) (sym does.functions) live.bodies))
        (λ q. prepares_fine k fields rs rest failed now (status_behind t status a) vs live grows does.functions (assigned_seen y s) next (known l) goes_on)))
      where
        o : Outcome
        o = expand f status in_one y.1 (fresh e a.given)

        t : State
        t = o.state

        left : LeftAt d c defined k.number k.elements rs (y ∷ rest) s
        left = stage.left

        does : Expanded d c defined f (word_gains y.1) (fresh e a.given) t
        does = word_expands d c defined (SimpleAt d c defined) base e fs status ws a s in_one y.1 (word_from d c defined s (behind d c k.number k.elements) y.1 left.behind_words left.values.1) h

        now : Environment
        now = with_variable t.environment y.0 (Some (pieces_text o.pieces))

        sets : Grows t.environment now
        sets = assigned_grows t.environment y.0 (pieces_text o.pieces)

        grows : Grows e now
        grows = grows_trans e t.environment now does.grows sets

        known : t.ended ≡ false → OneHolds d c (assigned_seen y s) now f
        known l =
            gain_holds d c (named (y.0 ∷ [])) (gaining (word_gains y.1) s) now f
            (has_name y.0 now f left.values.0 (assigned_set t.environment y.0 (pieces_text o.pieces)))
            (one_grows d c (gaining (word_gains y.1) s) t.environment now f sets (behind_word d c defined (SimpleAt d c defined) base e fs status ws a s y.1 t h does l))

        next : PrepareStage d c defined x k fields rs rest failed (assigned_seen y s)
        next = record {
          rules = stage.rules;
          fits = stage.fits;
          left = record {
            behind_words = λ e' f' o. left.behind_words e' f' (assigned_entails y s e' f' o);
            opened = left.opened;
            values = left.values.2;
            redirected = left.redirected;
          };
          settles = settles_assigned (manner fields) k.number k.elements rs y rest s ordinary stage.settles;
          was_redirected = stage.was_redirected;
        }

    -- Without a name

    pub nameless_ok : (k : Simple) (failed : Bool) (s : Seen) (vs : List Work) (live : Well base e fs status vs)
        → PrepareStage d c defined x k [] p.no_redirects [] failed s → OneHolds d c s e f → Behind live.callers k.number
        → Ok base e fs status (goes e f (if failed then nonzero a.status else a.status) ws)
    unfolding Settles manner values_gains SimpleRules after_nameless if_zero if_nonzero
    nameless_ok k failed s vs live stage h goes_on = go failed stage.was_redirected
      where
        b : Seen
        b = behind d c k.number k.elements

        settled : OneHolds d c (gaining (assignments_gains k.elements) b) e f
        settled = stage.settles e f (gain_holds d c (left_gains []) s e f (has_nothing e f) h)

        rules : Leaves d c k.number (after_nameless b [] (assignments_gains k.elements) (prefixes k.elements) (is_redirected (redirects_in k.elements)))
        rules = rules_by d c defined x k.number k.elements table.Nameless stage.rules (nameless_manner defined _ k.elements stage.fits)

        one : (v : Bool) → OneHolds d c (if v then b else gaining (assignments_gains k.elements) b) e f
        one true = holds_gain d c (assignments_gains k.elements) b e f settled
        one false = settled

        ends : OneHolds d c (if a.status == 0 then gaining (assignments_gains k.elements) b else (if is_redirected (redirects_in k.elements) then b else gaining (assignments_gains k.elements) b)) e f
        ends = by (a.status == 0)
          where
            by : (v : Bool) → OneHolds d c (if v then gaining (assignments_gains k.elements) b else (if is_redirected (redirects_in k.elements) then b else gaining (assignments_gains k.elements) b)) e f
            by true = settled
            by false = one (is_redirected (redirects_in k.elements))

        go : (v : Bool) → (v ≡ true → is_redirected (redirects_in k.elements) ≡ true) → Ok base e fs status (goes e f (if v then nonzero a.status else a.status) ws)
        go true r =
            (fails_fine d c defined (SimpleAt d c defined) base e fs status ws a k.number vs live e (grows_refl e) refl goes_on
            (nameless_nonzero d c defined x k.number k.elements _ stage.fits stage.rules (r refl) e f (stage.left.behind_words e f h))).ok
        go false r =
            turns_to d c defined (SimpleAt d c defined) base e fs status a.status vs ws live (after_command k.number) goes_on
            (leaves_lead d c k.number _ rules a.status e f ends)

    -- A function or a utility

    -- none of what is claimed is a function that is not defined
    unclaimed : (n : ℕ) (es : p.Elements) (t : Text) → is_name t ≡ true → e.functions t ≡ None → OneHolds d c (behind d c n es) e f → claims (behind_facts c n es) (Function t) ≡ false
    unfolding claims Holds
    unclaimed n es t named none h = go (behind_facts c n es) (behind_known d c defined n es e f h)
      where
        go : (y : Facts) → Holds y e f → claims y (Function t) ≡ false
        go NotReached k = absurd k
        go (Known v g m) k = by (g t) refl
          where
            by : (b : Bool) → g t ≡ b → g t ≡ false
            by true q = absurd (false≢true (ap is_some (sym none) ∙ k.functions t named q))
            by false q = q

    -- the utility, or the function that is defined
    pub invoked_ok : (k : Simple) (t : Text) (ts : List Text) (rs : p.Redirects) (xs : Assignments) (failed : Bool) (s : Seen) (vs : List Work) (live : Well base e fs status vs)
        → is_special (kind_of t) ≡ false → xs ≡ assignments_in k.elements → PrepareStage d c defined x k (t ∷ ts) rs xs failed s → OneHolds d c s e f → Behind live.callers k.number
        → Ok base e fs status (goes e f status (invoked e f status ws a k t ts rs xs (e.functions t) ∷ ws))
    unfolding invoked GoodIn Good FrontGood SimpleAt FieldsFit in_any_case unset_before
    invoked_ok k t ts rs xs failed s vs live ordinary all stage h goes_on = go (e.functions t) refl
      where
        n : ℕ
        n = k.number

        es : p.Elements
        es = k.elements

        m : ℕ
        m = parameters (behind_facts c n es)

        known : OneHolds d c (behind d c n es) e f
        known = stage.left.behind_words e f h

        name : BehindName m es t ts
        name = behind_name m es t ts stage.fits

        plain : is_declaration (kind_of t) ≡ false
        plain = no_declaration (kind_of t) ordinary

        steps : (w : Work) → GoodIn d c defined (SimpleAt d c defined) f base live.callers (w ∷ ws) (Both s) → Ok base e fs status (goes e f status (w ∷ ws))
        steps w all =
            step_goes d c defined (SimpleAt d c defined) base e e fs status status (w ∷ ws) (grows_refl e)
            (grown_in d c defined (SimpleAt d c defined) base e fs status ws a e status vs (w ∷ ws) live (Both s) (grows_refl e) refl all (both_holds d c status s e f h))

        utility : e.functions t ≡ None → UtilityStage d c defined x k t ts rs xs (map (λ x. x.0) xs) s
        utility none = record {
          rules = stage.rules;
          begun = stage.fits;
          left = stage.left;
          ordinary = ordinary;
          unclaimed = by (is_one_of defined t) refl;
          prefixed = ap names_of all;
        }
          where
            by : (b : Bool) → is_one_of defined t ≡ b → (is_one_of defined t ≡ false) ⊎ (claims (behind_facts c n es) (Function t) ≡ false)
            by true q = inr (unclaimed n es t (stage.rules.named t q) none known)
            by false q = inl q

        call : (body : p.Command) → e.functions t ≡ Some body → CallStage d c defined x n t ts body rs xs [] s
        call body is =
            let ok = live.bodies t body is in
            record {
              elements = es;
              words = name.others;
              rules = stage.rules;
              calls = call_manner defined m es t ts name ok.listed ordinary;
              entered = ok;
              left = stage.left;
              counted = counted_fits m name.others ts (subst (λ b. Fields b m name.others ts) plain name.given);
              prefixed = subst (λ ys. Entails d c (gaining_names (names_of ys) s) (gaining_names (prefixes es) (behind d c n es))) (sym all)
                  (gaining_entails d c defined (named (prefixes es)) s (behind d c n es) stage.left.behind_words);
              among = λ u q. subst (λ ys. is_one_of (names_of ys) u ≡ true) all q;
              unset_among = λ u q. cc;
              unclaimed = λ u q. cc;
            }

        go : (o : Option p.Command) → e.functions t ≡ o → Ok base e fs status (goes e f status (invoked e f status ws a k t ts rs xs o ∷ ws))
        go None is =
            steps (Utility k t ts rs xs (map (λ x. x.0) xs) [])
            (record { after = Both s; leads = leads_same d c defined (SimpleAt d c defined) (Both s); goes = (utility is, goes_on) })
        go (Some body) is =
            steps (Call n t ts body rs xs [])
            (record { after = Both s; leads = leads_same d c defined (SimpleAt d c defined) (Both s); goes = (call body is, goes_on) })
