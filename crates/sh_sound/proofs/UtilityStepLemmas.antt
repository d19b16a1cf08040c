-- Steps of utilities that are not special built-ins.
use Rattle.std.proofs.Common.{◌≡◌, ℕ, Bool, true, false, if◌then◌else◌, List, [], ◌∷◌, ◌++◌, inl, inr, refl, sym, subst, ◌∙◌}
use Rattle.std.proofs.lemmas.Bool.{true≢false}
use Rattle.sh_tree.specs.standard.program.Syntax as p
use Rattle.sh_tree.specs.standard.program.Syntax.{Text}
use Rattle.sh_tree.specs.standard.program.Words.{Assignments, redirects_in}
use Rattle.sh_runs.specs.standard.Kinds.{kind_of}
use Rattle.sh_runs.specs.standard.runs.Environment.{Environment, Frame, is_one_of, showing, hiding}
use Rattle.sh_runs.specs.standard.runs.Answers.{Answer}
use Rattle.sh_runs.specs.standard.runs.Builtins.{utility}
use Rattle.sh_runs.specs.standard.runs.Expansion.{in_one, Outcome, pieces_text, expand}
use Rattle.sh_runs.specs.standard.runs.States.{State, fresh}
use Rattle.sh_runs.specs.standard.runs.Steps.{opened, Named, status_behind, unless_ended, failed_in, redirected, kept, seen, utility_step, act_on}
use Rattle.sh_runs.specs.standard.runs.Work.{Simple, Work, Utility, Effect, goes, ends, after_expansion}
use Rattle.sh_domain.specs.Entries.{Around}
use Rattle.sh_domain.specs.Facts.{Facts}
use Rattle.sh_domain.specs.Gains.{no_gains, and_gains, word_gains}
use Rattle.sh_domain.specs.Inclusions as i
use Rattle.sh_domain.specs.Inclusions.{SimpleRules, behind}
use Rattle.sh_domain.specs.Rules.{losses_by}
use Rattle.sh_domain.specs.Table as table
use Rattle.sh_domain.specs.Table.{is_redirected, assignments_gains, redirections_gains}
use Rattle.sh_domain.specs.Views.{Certificate, Seen, Both, in_any_case, after_command}
use Rattle.sh_sound.specs.Fields.{Fields}
use Rattle.sh_sound.specs.Holding.{Grows, OneHolds, Expanded}
use Rattle.sh_sound.specs.Going.{around, front, Bodies, WordAt, FrontGood, Good, GoodIn, ProcessOk, StepOk}
use Rattle.sh_sound.specs.Doing.{behind_facts, parameters, EachOpened, EachValue, LeftAt, UtilityStage, SimpleAt}
use Rattle.sh_sound.proofs.HoldLemmas.{has_nothing, grows_refl, grows_trans, one_grows, any_holds, both_holds}
use Rattle.sh_sound.proofs.ExpansionLemmas.{word_does}
use Rattle.sh_sound.proofs.ListLemmas.{leads_same}
use Rattle.sh_sound.proofs.StepLemmas.{word_expands, grown}
use Rattle.sh_sound.proofs.ChangeLemmas.{showing_grows, hiding_grows, showing_functions, hiding_functions}
use Rattle.sh_sound.proofs.MannerLemmas.{BehindName, behind_name, utility_manner, call_manner, rules_by, losses_at, ordinary_nonzero, word_from}
use Rattle.sh_sound.proofs.RedirectLemmas.{Fine, either_fine, ends_fine, goes_fine, behind_fine, unless_fine, redirected_fine, Fails, failed_fine}
use Rattle.sh_sound.proofs.PrepareLemmas.{no_declaration}
use Rattle.sh_sound.proofs.UtilityLemmas.{uncalled_ok, table_ok}

module _ (d : Facts) (c : Certificate) (defined : List Text) where
  abbrev Well : Around → Environment → List Frame → ℕ → List Work → Type 0
  Well base e fs status ws = ProcessOk d c defined (SimpleAt d c defined) base e fs status ws

  abbrev Ok : Around → Environment → List Frame → ℕ → Effect → Type 0
  Ok base e fs status y = StepOk d c defined (SimpleAt d c defined) base e fs status y

  module _ (base : Around) (e : Environment) (fs : List Frame) (status : ℕ) (ws : List Work) (a : Answer) where
    abbrev f : Frame
    f = front fs

    abbrev x : Around
    x = around base ws

    abbrev FineStep : Effect → Type 0
    FineStep y = Fine d c defined (SimpleAt d c defined) base e fs status ws a y

    abbrev Behind : List Facts → ℕ → Type 0
    Behind callers n = Good d c defined (SimpleAt d c defined) base callers ws (after_command n)

    -- what is left of a utility
    goes_on_fine : (k : Simple) (t : Text) (ts : List Text) (rs : p.Redirects) (xs : Assignments) (all : List Text) (values : List (Text × Text)) (e' : Environment) (now : ℕ) (vs : List Work)
        (live : Well base e fs status vs) → Grows e e' → e'.functions ≡ e.functions → (s : Seen) → UtilityStage d c defined x k t ts rs xs all s → OneHolds d c s e f → Behind live.callers k.number
        → FineStep (goes e' f now (Utility k t ts rs xs all values ∷ ws))
    unfolding Good FrontGood SimpleAt in_any_case
    goes_on_fine k t ts rs xs all values e' now vs live g same s stage h goes_on =
        goes_fine d c defined (SimpleAt d c defined) base e fs status ws a e' now (Utility k t ts rs xs all values ∷ ws) g
        (grown d c defined (SimpleAt d c defined) base e fs status ws a e' now vs (Utility k t ts rs xs all values ∷ ws) live (Both s) g same
        (record { after = Both s; leads = leads_same d c defined (SimpleAt d c defined) (Both s); goes = (stage, goes_on) })
        (both_holds d c now s e' f (one_grows d c s e e' f g h)))

    -- the next redirection
    redirect_ok : (k : Simple) (t : Text) (ts : List Text) (r : p.Redirect) (rest : p.Redirects) (xs : Assignments) (all : List Text) (values : List (Text × Text)) (s : Seen) (vs : List Work)
        (live : Well base e fs status vs) → UtilityStage d c defined x k t ts (p.more_redirects r rest) xs all s → OneHolds d c s e f → Behind live.callers k.number
        → let u = (expand f status in_one (opened r) (fresh e a.given)).state in
        Ok base e fs status
        (after_expansion u false (redirected e f status ws a a.redirection_in_copy u (Utility k t ts rest xs all values ∷ ws) (λ d'. failed_in e f status ws a (Named t ts) d' ws)))
    unfolding EachOpened is_redirected Fails
    redirect_ok k t ts r rest xs all values s vs live stage h goes_on =
        behind_fine d c defined (SimpleAt d c defined) base e fs status ws a u _ live.bodies does
        (redirected_fine d c defined (SimpleAt d c defined) base e fs status ws a a.redirection_in_copy u (Utility k t ts rest xs all values ∷ ws) _ live.bodies does.grows does.functions fails
        (λ q. goes_on_fine k t ts rest xs all values e (status_behind u status a) vs live (grows_refl e) refl s next h goes_on)
        (λ q l. goes_on_fine k t ts rest xs all values u.environment (status_behind u status a) vs live does.grows does.functions s next h goes_on))
      where
        u : State
        u = (expand f status in_one (opened r) (fresh e a.given)).state

        left : LeftAt d c defined k.number k.elements (p.more_redirects r rest) xs s
        left = stage.left

        does : Expanded d c defined f (word_gains (opened r)) (fresh e a.given) u
        does = word_expands d c defined (SimpleAt d c defined) base e fs status ws a s in_one (opened r) (word_from d c defined s (behind d c k.number k.elements) (opened r) left.behind_words left.opened.0) h

        some : is_redirected (redirects_in k.elements) ≡ true
        some = left.redirected refl

        next : UtilityStage d c defined x k t ts rest xs all s
        next = record {
          rules = stage.rules;
          begun = stage.begun;
          left = record { behind_words = left.behind_words; opened = left.opened.1; values = left.values; redirected = λ q. some };
          ordinary = stage.ordinary;
          unclaimed = stage.unclaimed;
          prefixed = stage.prefixed;
        }

        fails : (e' : Environment) → Grows e e' → e'.functions ≡ e.functions → FineStep (failed_in e f status ws a (Named t ts) e' ws)
        fails e' g same =
            failed_fine d c defined (SimpleAt d c defined) base e fs status ws a (Named t ts) k.number vs live e' ws g same goes_on
            (ordinary_nonzero d c defined x k.number k.elements _ t ts (behind_name _ k.elements t ts stage.begun) stage.rules stage.ordinary some e' f (left.behind_words e' f (one_grows d c s e e' f g h)))
            (λ q. cc)

    -- the next prefix assignment: what its value does stays, unless it is expanded in a copy
    value_does : (y : Text × p.Word) (values : List (Text × Text)) (s : Seen) → Bodies d c defined e.functions → WordAt d c defined s y.1 → OneHolds d c s e f
        → let o = expand f status in_one y.1 (fresh (showing e values) a.given) in
        Expanded d c defined f no_gains (fresh e a.given) (kept e f status ws a (record o.state { environment = hiding e values o.state.environment }))
    value_does y values s bodies at h = go a.value_in_copy
      where
        shown : Environment
        shown = showing e values

        o : Outcome
        o = expand f status in_one y.1 (fresh shown a.given)

        seen_there : OneHolds d c s shown f
        seen_there = one_grows d c s e shown f (showing_grows e values) h

        does : Expanded d c defined f (word_gains y.1) (fresh shown a.given) o.state
        does =
            word_does d c defined f status in_one y.1 (fresh shown a.given) at.seen at.facts (record { one = at.entails shown f seen_there; facts = at.knows shown f seen_there })
            at.rules at.met at.formed

        hidden : Environment
        hidden = hiding e values o.state.environment

        grows : Grows e hidden
        grows = hiding_grows e o.state.environment values (grows_trans e shown o.state.environment (showing_grows e values) does.grows)

        same : hidden.functions ≡ e.functions
        same = hiding_functions e o.state.environment values ∙ does.functions ∙ showing_functions e values

        go : (b : Bool) → Expanded d c defined f no_gains (fresh e a.given) (record o.state { environment = if b then e else hidden })
        go true = record { unset = does.unset; grows = grows_refl e; functions = refl; copies = λ g k l. does.copies g (showing_functions e values ∙ k) l; gains = λ l. has_nothing e f }
        go false = record { unset = does.unset; grows = grows; functions = same; copies = λ g k l. does.copies g (showing_functions e values ∙ k) l; gains = λ l. has_nothing hidden f }

    value_ok : (k : Simple) (t : Text) (ts : List Text) (rs : p.Redirects) (y : Text × p.Word) (xs : Assignments) (all : List Text) (values : List (Text × Text)) (s : Seen) (vs : List Work)
        (live : Well base e fs status vs) → UtilityStage d c defined x k t ts rs (y ∷ xs) all s → OneHolds d c s e f → Behind live.callers k.number
        → let o = expand f status in_one y.1 (fresh (showing e (seen e f status ws a values)) a.given) in
        let u = kept e f status ws a (record o.state { environment = hiding e (seen e f status ws a values) o.state.environment }) in
        let next = Utility k t ts rs xs all (values ++ (y.0, pieces_text o.pieces) ∷ []) in
        Ok base e fs status
        (after_expansion u false (unless_ended e f status ws a u (if a.assignment_fails then ends u.environment f else goes u.environment f (status_behind u status a) (next ∷ ws))))
    unfolding EachValue
    value_ok k t ts rs y xs all values s vs live stage h goes_on =
        behind_fine d c defined (SimpleAt d c defined) base e fs status ws a u _ live.bodies does
        (unless_fine d c defined (SimpleAt d c defined) base e fs status ws a u _ does.grows bodies
        (λ l. either_fine d c defined (SimpleAt d c defined) base e fs status ws a a.assignment_fails _ _
        (λ q. ends_fine d c defined (SimpleAt d c defined) base e fs status ws a u.environment does.grows bodies)
        (λ q. goes_on_fine k t ts rs xs all (values ++ (y.0, pieces_text o.pieces) ∷ []) u.environment (status_behind u status a) vs live does.grows does.functions s next h goes_on)))
      where
        shows : List (Text × Text)
        shows = seen e f status ws a values

        o : Outcome
        o = expand f status in_one y.1 (fresh (showing e shows) a.given)

        u : State
        u = kept e f status ws a (record o.state { environment = hiding e shows o.state.environment })

        left : LeftAt d c defined k.number k.elements rs (y ∷ xs) s
        left = stage.left

        does : Expanded d c defined f no_gains (fresh e a.given) u
        does = value_does y shows s live.bodies (word_from d c defined s (behind d c k.number k.elements) y.1 left.behind_words left.values.1) h

        bodies : Bodies d c defined u.environment.functions
        bodies = subst (Bodies d c defined) (sym does.functions) live.bodies

        next : UtilityStage d c defined x k t ts rs xs all s
        next = record {
          rules = stage.rules;
          begun = stage.begun;
          left = record { behind_words = left.behind_words; opened = left.opened; values = left.values.2; redirected = left.redirected };
          ordinary = stage.ordinary;
          unclaimed = stage.unclaimed;
          prefixed = stage.prefixed;
        }

    -- the utility itself
    runs_ok : (k : Simple) (t : Text) (ts : List Text) (all : List Text) (s : Seen) (vs : List Work) (live : Well base e fs status vs) → UtilityStage d c defined x k t ts p.no_redirects [] all s
        → OneHolds d c s e f → Behind live.callers k.number → Ok base e fs status (utility all e f ws a (kind_of t) ts)
    unfolding SimpleRules losses_by
    runs_ok k t ts all s vs live stage h goes_on = go (is_one_of defined t) refl
      where
        n : ℕ
        n = k.number

        es : p.Elements
        es = k.elements

        m : ℕ
        m = parameters (behind_facts c n es)

        name : BehindName m es t ts
        name = behind_name m es t ts stage.begun

        known : OneHolds d c (behind d c n es) e f
        known = stage.left.behind_words e f h

        given : Fields false m name.others ts
        given = subst (λ b. Fields b m name.others ts) (no_declaration (kind_of t) stage.ordinary) name.given

        go : (b : Bool) → is_one_of defined t ≡ b → Ok base e fs status (utility all e f ws a (kind_of t) ts)
        go true q =
            let manner = call_manner defined m es t ts name q stage.ordinary in
            uncalled_ok d c defined (SimpleAt d c defined) base e fs status ws a n es ts vs live goes_on all t name.others
            (rules_by d c defined x n es (table.Call t name.others) stage.rules manner) (losses_at d c defined x n es (table.Call t name.others) stage.rules manner)
            (elim stage.unclaimed [ inl other ↦ absurd (true≢false (sym q ∙ other)) | inr un ↦ un ]) known
        go false q =
            let manner = utility_manner defined m es t ts name q in
            table_ok d c defined (SimpleAt d c defined) base e fs status ws a n es ts vs live goes_on all (kind_of t) name.others m (and_gains (assignments_gains es) (redirections_gains es)) (is_redirected (redirects_in es))
            stage.ordinary given
            (subst (λ ns. i.Leaves d c n (table.after_utility (behind d c n es) name.others (and_gains (assignments_gains es) (redirections_gains es)) ns (is_redirected (redirects_in es)) (kind_of t))) (sym stage.prefixed)
            (rules_by d c defined x n es (table.Utility (kind_of t) name.others) stage.rules manner).leaves)
            (losses_at d c defined x n es (table.Utility (kind_of t) name.others) stage.rules manner) known

    pub utility_ok : (k : Simple) (t : Text) (ts : List Text) (rs : p.Redirects) (xs : Assignments) (all : List Text) (values : List (Text × Text)) → Well base e fs status (Utility k t ts rs xs all values ∷ ws)
        → Ok base e fs status (act_on e f status ws a (Utility k t ts rs xs all values))
    unfolding act_on utility_step GoodIn Good FrontGood SimpleAt
    utility_ok k t ts p.no_redirects [] all values live =
        runs_ok k t ts all (in_any_case live.good.after) _ live live.good.goes.0 (any_holds d c status live.good.after e f (live.good.leads status e f live.holds)) live.good.goes.1
    utility_ok k t ts (p.more_redirects r rest) [] all values live =
        redirect_ok k t ts r rest [] all values (in_any_case live.good.after) _ live live.good.goes.0 (any_holds d c status live.good.after e f (live.good.leads status e f live.holds)) live.good.goes.1
    utility_ok k t ts rs (y ∷ xs) all values live =
        value_ok k t ts rs y xs all values (in_any_case live.good.after) _ live live.good.goes.0 (any_holds d c status live.good.after e f (live.good.leads status e f live.holds)) live.good.goes.1
