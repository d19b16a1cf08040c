-- Steps of simple commands between their words and what their name means.
use Rattle.std.proofs.Common.{◌≡◌, ℕ, Bool, true, false, not, ◌&&◌, if◌then◌else◌, Option, Some, None, List, [], ◌∷◌, map, refl, sym, ap, subst, ◌∙◌}
use Rattle.std.proofs.lemmas.Bool.{true≢false}
use Rattle.sh_tree.specs.declared.known.KnownName.{KnownName}
use Rattle.sh_tree.specs.declared.refusal.Rule.{Rule}
use Rattle.sh_tree.specs.standard.program.Syntax as p
use Rattle.sh_tree.specs.standard.program.Syntax.{Text, Word}
use Rattle.sh_tree.specs.standard.program.Words.{Assignments, operands_in, static_of, words_in, is_plainly}
use Rattle.sh_runs.specs.declared.kind.Kind.{Kind}
use Rattle.sh_runs.specs.declared.kind.Kind.TheVariants as kind
use Rattle.sh_runs.specs.standard.Kinds.{kind_of, is_declaration}
use Rattle.sh_runs.specs.Profile.{Static, or_rule, kind_rule, named_rule, words_rule, command_rule}
use Rattle.sh_runs.specs.Surroundings.{Surroundings}
use Rattle.sh_runs.specs.standard.runs.Environment.{Environment, Frame}
use Rattle.sh_runs.specs.standard.runs.Answers.{Answer}
use Rattle.sh_runs.specs.standard.runs.Builtins.{special, special_or_end}
use Rattle.sh_runs.specs.standard.runs.Steps.{Manner, Special, Named, named_manner, manner, in_order, in_any_order, next_preparation, prepared, prepare, act_on}
use Rattle.sh_runs.specs.standard.runs.Work.{Simple, Work, Prepare, Effect, ends}
use Rattle.sh_domain.specs.Demands.{command_moves, moves, kind_moves, is_reached}
use Rattle.sh_domain.specs.Entries.{Around}
use Rattle.sh_domain.specs.Facts.{Facts, NotReached, Known, claims, facts}
use Rattle.sh_domain.specs.Gains.{Gains, and_gains, with_gains, words_gains, redirects_gains}
use Rattle.sh_domain.specs.Inclusions as i
use Rattle.sh_domain.specs.Inclusions.{MayDrop, SimpleRules, UtilityRules, behind, surroundings_of}
use Rattle.sh_domain.specs.Rules.{utility_losses, losses_by}
use Rattle.sh_domain.specs.Table as table
use Rattle.sh_domain.specs.Table.{is_special, values_gains}
use Rattle.sh_domain.specs.Views.{Certificate, Before, Seen, in_any_case, after_command, lost}
use Rattle.sh_sound.specs.Fields.{Fields, FieldsFit}
use Rattle.sh_sound.specs.Holding.{Holds, OneHolds}
use Rattle.sh_sound.specs.Going.{around, front, FrontGood, Good, GoodIn, ProcessOk, StepOk}
use Rattle.sh_sound.specs.Doing.{left_gains, behind_facts, parameters, Settles, PrepareStage, SimpleAt}
use Rattle.sh_sound.proofs.CallLemmas.{behind_known}
use Rattle.sh_sound.proofs.HoldLemmas.{has_nothing, grows_refl, gain_holds, any_holds}
use Rattle.sh_sound.proofs.ListLemmas.{step_ends}
use Rattle.sh_sound.proofs.MannerLemmas.{BehindName, behind_name, special_manner, rules_by, losses_at}
use Rattle.sh_sound.proofs.PrepareLemmas.{may_prefix, redirect_ok, assign_ok, nameless_ok, invoked_ok}
use Rattle.sh_sound.proofs.SpecialRowLemmas.{Ready, special_ok}

-- what an admitted command's name admits

none_first : (q r : Option Rule) → or_rule q r ≡ None → q ≡ None
unfolding or_rule
none_first None r h = refl
none_first (Some q) r h = cc

named_admits : (x : Surroundings) (w : Word) (s : Static) (ss : List Static) (t : Text) → s ≡ Some t → named_rule x w s ss ≡ None → kind_rule x (not (is_plainly t w)) (kind_of t) ss ≡ None
unfolding named_rule
named_admits x w s ss t e h = none_first (kind_rule x (not (is_plainly t w)) (kind_of t) ss) _ (subst (λ v. named_rule x w v ss ≡ None) e h)

words_admit : (x : Surroundings) (ws : p.Words) (w : Word) (others : List Word) (t : Text) → words_in ws ≡ w ∷ others → static_of w ≡ Some t → words_rule x ws ≡ None
    → kind_rule x (not (is_plainly t w)) (kind_of t) (map static_of others) ≡ None
unfolding words_in words_rule
words_admit x p.no_words w others t h s k = cc
words_admit x (p.more_words v vs) w others t h s k =
    let same : v ≡ w = cc in
    let rest : words_in vs ≡ others = cc in
    subst (λ os. kind_rule x (not (is_plainly t w)) (kind_of t) (map static_of os) ≡ None) rest
    (named_admits x w (static_of w) (map static_of (words_in vs)) t s (subst (λ u. named_rule x u (static_of u) (map static_of (words_in vs)) ≡ None) same k))

and_then : (b v : Bool) → v ≡ true → (b && v) ≡ false → b ≡ false
and_then false v h k = refl
and_then true v h k = absurd (true≢false (sym h ∙ k))

reached : (g : Gains) (y : Facts) (e : Environment) (f : Frame) → Holds (with_gains g y) e f → is_reached y ≡ true
unfolding Holds with_gains is_reached claims
reached g NotReached e f h = absurd h
reached g (Known v q m) e f h = refl

module _ (d : Facts) (c : Certificate) (defined : List Text) where
  abbrev Well : Around → Environment → List Frame → ℕ → List Work → Type 0
  Well base e fs status ws = ProcessOk d c defined (SimpleAt d c defined) base e fs status ws

  abbrev Ok : Around → Environment → List Frame → ℕ → Effect → Type 0
  Ok base e fs status y = StepOk d c defined (SimpleAt d c defined) base e fs status y

  module _ (base : Around) (e : Environment) (fs : List Frame) (status : ℕ) (ws : List Work) (a : Answer) where
    abbrev f : Frame
    f = front fs

    abbrev x : Around
    x = around base ws

    abbrev Behind : List Facts → ℕ → Type 0
    Behind callers n = Good d c defined (SimpleAt d c defined) base callers ws (after_command n)

    -- Special built-in utilities

    special_ready : (k : Simple) (name : KnownName) (t : Text) (ts : List Text) (failed : Bool) (s : Seen) (vs : List Work) (live : Well base e fs status vs) → kind_of t ≡ kind.Special name
        → PrepareStage d c defined x k (t ∷ ts) p.no_redirects [] failed s → OneHolds d c s e f → Behind live.callers k.number
        → Ready d c defined (SimpleAt d c defined) base e fs status ws a name k.number k.elements ts vs
    unfolding manner named_manner Settles SimpleRules losses_by values_gains redirects_gains command_rule command_moves moves is_special FieldsFit
    special_ready k name t ts failed s vs live q stage h goes_on = record {
      live = live;
      goes_on = goes_on;
      word = named.word;
      others = named.others;
      words = named.words;
      quoted = not (is_plainly t named.word);
      admitted =
          subst (λ v. kind_rule (surroundings_of x) (not (is_plainly t named.word)) v (map static_of named.others) ≡ None) q
          (words_admit (surroundings_of x) (operands_in es) named.word named.others t named.words named.static stage.rules.rules.admitted);
      given = subst (λ v. Fields (is_declaration v) m named.others ts) q named.given;
      rules = subst (λ v. UtilityRules d c x n es v named.others) q (rules_by d c defined x n es (table.Utility (kind_of t) named.others) stage.rules way);
      losses = subst (λ v. i.Each (λ l. MayDrop d c x (lost d c n l)) (utility_losses defined v named.others)) q (losses_at d c defined x n es (table.Utility (kind_of t) named.others) stage.rules way);
      still = λ shares.
          subst (λ v. kind_moves v named.others ≡ false) q
          (and_then (kind_moves (kind_of t) named.others) (is_reached (facts (c.claim (Before n)))) (reached (words_gains (operands_in es)) (facts (c.claim (Before n))) e f (behind_known d c defined n es e f known))
          (subst (λ w. (moves w && is_reached (facts (c.claim (Before n)))) ≡ false) way (stage.rules.rules.stays shares)));
      known = known;
      settled = settles e f (gain_holds d c (and_gains (left_gains []) (redirects_gains p.no_redirects)) s e f (has_nothing e f) h);
    }
      where
        n : ℕ
        n = k.number

        es : p.Elements
        es = k.elements

        m : ℕ
        m = parameters (behind_facts c n es)

        named : BehindName m es t ts
        named = behind_name m es t ts stage.fits

        way : table.manner defined es ≡ table.Utility (kind_of t) named.others
        way = special_manner defined m es t ts named (ap is_special q)

        known : OneHolds d c (behind d c n es) e f
        known = stage.left.behind_words e f h

        settles : Settles d c defined (Special name ts) n es p.no_redirects [] s
        settles = subst (λ w. Settles d c defined w n es p.no_redirects [] s) (ap (λ v. named_manner v t ts) q) stage.settles

    special_done : (k : Simple) (name : KnownName) (t : Text) (ts : List Text) (failed : Bool) (s : Seen) (vs : List Work) (live : Well base e fs status vs) → kind_of t ≡ kind.Special name
        → PrepareStage d c defined x k (t ∷ ts) p.no_redirects [] failed s → OneHolds d c s e f → Behind live.callers k.number
        → Ok base e fs status (special_or_end e f status ws a (operands_in k.elements) name ts)
    unfolding special_or_end
    special_done k name t ts failed s vs live q stage h goes_on = go a.special_ends
      where
        go : (b : Bool) → Ok base e fs status (if b then ends e f else special e f status ws a (operands_in k.elements) name ts)
        go true = step_ends d c defined (SimpleAt d c defined) base e e fs status (grows_refl e) live.bodies
        go false = special_ok d c defined (SimpleAt d c defined) base e fs status ws a k.number k.elements ts vs name (special_ready k name t ts failed s vs live q stage h goes_on)

    -- Without a name and before a special built-in utility: in any order

    module _ (k : Simple) (fields : List Text) (failed : Bool) (s : Seen) (vs : List Work) (live : Well base e fs status vs) (h : OneHolds d c s e f) (goes_on : Behind live.callers k.number) where
      abbrev Stage : p.Redirects → Assignments → Type 0
      Stage rs xs = PrepareStage d c defined x k fields rs xs failed s

      any_order_ok : may_prefix (manner fields) ≡ false → (Stage p.no_redirects [] → Ok base e fs status (prepared e f status ws a k (manner fields) p.no_redirects [] failed))
          → (first : Bool) (rs : p.Redirects) (xs : Assignments) → Stage rs xs → Ok base e fs status (prepare e f status ws a k fields rs xs failed (in_any_order first rs xs))
      unfolding prepare in_any_order in_order
      any_order_ok o done first p.no_redirects [] stage = done stage
      any_order_ok o done first (p.more_redirects r rs) [] stage = redirect_ok d c defined base e fs status ws a k fields r rs [] failed s vs live stage h goes_on
      any_order_ok o done first p.no_redirects (y ∷ ys) stage = assign_ok d c defined base e fs status ws a k fields p.no_redirects y ys failed s vs live o stage h goes_on
      any_order_ok o done true (p.more_redirects r rs) (y ∷ ys) stage = assign_ok d c defined base e fs status ws a k fields (p.more_redirects r rs) y ys failed s vs live o stage h goes_on
      any_order_ok o done false (p.more_redirects r rs) (y ∷ ys) stage = redirect_ok d c defined base e fs status ws a k fields r rs (y ∷ ys) failed s vs live stage h goes_on

      -- a function or another utility: its redirections, until the assignments come
      order_ok : (xs : Assignments) (rs : p.Redirects) → (Stage rs xs → Ok base e fs status (prepared e f status ws a k (manner fields) rs xs failed)) → Stage rs xs
          → Ok base e fs status (prepare e f status ws a k fields rs xs failed (in_order rs))
      unfolding prepare in_order
      order_ok xs p.no_redirects done stage = done stage
      order_ok xs (p.more_redirects r rs) done stage = redirect_ok d c defined base e fs status ws a k fields r rs xs failed s vs live stage h goes_on

      named_order_ok : (t : Text) (us : List Text) (first : Bool) (rs : p.Redirects) (xs : Assignments) → (Stage rs xs → Ok base e fs status (prepared e f status ws a k (manner fields) rs xs failed)) → Stage rs xs
          → Ok base e fs status (prepare e f status ws a k fields rs xs failed (next_preparation (Named t us) first rs xs))
      unfolding prepare next_preparation
      named_order_ok t us first rs [] done stage = order_ok [] rs done stage
      named_order_ok t us true rs (y ∷ ys) done stage = done stage
      named_order_ok t us false rs (y ∷ ys) done stage = order_ok (y ∷ ys) rs done stage

    stage_ok : (k : Simple) (fields : List Text) (rs : p.Redirects) (xs : Assignments) (failed : Bool) (s : Seen) (vs : List Work) (live : Well base e fs status vs)
        → PrepareStage d c defined x k fields rs xs failed s → OneHolds d c s e f → Behind live.callers k.number
        → Ok base e fs status (prepare e f status ws a k fields rs xs failed (next_preparation (manner fields) a.assignment_first rs xs))
    unfolding manner named_manner may_prefix prepared next_preparation is_special Settles
    stage_ok k [] rs xs failed s vs live stage h goes_on =
        any_order_ok k [] failed s vs live h goes_on refl (λ st. nameless_ok d c defined base e fs status ws a k failed s vs live st h goes_on) a.assignment_first rs xs stage
    stage_ok k (t ∷ ts) rs xs failed s vs live stage h goes_on = go (kind_of t) refl
      where
        -- by the kind of its name
        goal : Manner → Type 0
        goal w = Ok base e fs status (prepare e f status ws a k (t ∷ ts) rs xs failed (next_preparation w a.assignment_first rs xs))

        go : (v : Kind) → kind_of t ≡ v → goal (named_manner (kind_of t) t ts)
        go (kind.Special name) q =
            let is : named_manner (kind_of t) t ts ≡ Special name ts = ap (λ v. named_manner v t ts) q in
            subst goal (sym is)
            (any_order_ok k (t ∷ ts) failed s vs live h goes_on (ap may_prefix is)
            (λ st. subst (λ w. Ok base e fs status (prepared e f status ws a k w p.no_redirects [] failed)) (sym is) (special_done k name t ts failed s vs live q st h goes_on))
            a.assignment_first rs xs stage)
        go v q =
            let is : named_manner (kind_of t) t ts ≡ Named t ts = ap (λ v. named_manner v t ts) q in
            subst goal (sym is)
            (named_order_ok k (t ∷ ts) failed s vs live h goes_on t ts a.assignment_first rs xs
            (λ st. subst (λ w. Ok base e fs status (prepared e f status ws a k w rs xs failed)) (sym is)
            (invoked_ok d c defined base e fs status ws a k t ts rs xs failed s vs live (ap is_special q) (subst (λ w. Settles d c defined w k.number k.elements rs xs s) is st.settles) st h goes_on))
            stage)

    -- the redirections and assignments of a simple command, and what its name means
    pub prepare_ok : (k : Simple) (fields : List Text) (rs : p.Redirects) (xs : Assignments) (failed : Bool) → Well base e fs status (Prepare k fields rs xs failed ∷ ws)
        → Ok base e fs status (act_on e f status ws a (Prepare k fields rs xs failed))
    unfolding act_on GoodIn Good FrontGood SimpleAt
    prepare_ok k fields rs xs failed live =
        stage_ok k fields rs xs failed (in_any_case live.good.after) _ live live.good.goes.0 (any_holds d c status live.good.after e f (live.good.leads status e f live.holds)) live.good.goes.1
