-- What each special built-in utility leaves is what the table says.
use Rattle.std.proofs.Common.{◌≡◌, ℕ, ◌-◌, ◌==◌, ◌≤◌, nat_le, Bool, true, false, ◌||◌, if◌then◌else◌, Option, Some, None, is_some, List, [], ◌∷◌, map, length, drop, filter, bytes_eq, refl, sym, ap, subst, ◌∙◌, arith, length-drop}
use Rattle.std.specs.List.{list_all}
use Rattle.std.proofs.lemmas.Bool.{false≢true, true≢false}
use Rattle.sh_tree.specs.standard.program.Syntax as p
use Rattle.sh_tree.specs.standard.program.Syntax.{Text, Word}
use Rattle.sh_tree.specs.standard.program.Words.{operands_in, redirects_in, static_of, words_in}
use Rattle.sh_tree.specs.declared.known.KnownName.{KnownName}
use Rattle.sh_tree.specs.declared.known.KnownName.TheVariants as known
use Rattle.sh_runs.specs.declared.kind.Kind.TheVariants as kind
use Rattle.sh_runs.specs.standard.Kinds.{is_declaration}
use Rattle.sh_runs.specs.Profile.{sets_known, kind_rule}
use Rattle.sh_runs.specs.standard.runs.Environment.{Environment, Frame, is_one_of, put_text, with_function, showing}
use Rattle.sh_runs.specs.standard.runs.Answers.{Answer}
use Rattle.sh_runs.specs.standard.runs.Builtins.{nonzero, set_frame, shifted, special, unset_names, removed_all}
use Rattle.sh_runs.specs.standard.runs.Operands.{definitions_in, has_command, set_words, count_operand, unset_operands}
use Rattle.sh_runs.specs.standard.runs.Work.{Work, Effect, goes}
use Rattle.sh_runs.proofs.EnvironmentLemmas.{all_removed_kept}
use Rattle.sh_domain.specs.Demands.{kind_moves}
use Rattle.sh_domain.specs.Entries.{Around}
use Rattle.sh_domain.specs.Facts.{Facts, facts}
use Rattle.sh_domain.specs.Gains.{Gains, named, and_gains, words_gains}
use Rattle.sh_domain.specs.Inclusions as i
use Rattle.sh_domain.specs.Inclusions.{Leaves, MayDrop, UtilityRules, behind, surroundings_of}
use Rattle.sh_domain.specs.Operands as operands
use Rattle.sh_domain.specs.Operands.{Names, statics, total, positional_words, first_number, runs_command, declared_names}
use Rattle.sh_domain.specs.Rules.{utility_losses}
use Rattle.sh_domain.specs.Table.{prefixes, assignments_gains, redirections_gains, is_redirected, after_utility, after_set, after_shift}
use Rattle.sh_domain.specs.Views.{Certificate, Before, Count, Shift, Seen, After, Both, if_zero, if_nonzero, after_command, gaining, gaining_names, stepped, Lose, lost}
use Rattle.sh_sound.specs.Fields.{Fields}
use Rattle.sh_sound.specs.Holding.{Has, OneHolds, AfterHolds}
use Rattle.sh_sound.specs.Going.{around, front, Bodies, BodyOk, Good, ProcessOk, StepOk}
use Rattle.sh_sound.specs.Doing.{behind_facts, parameters}
use Rattle.sh_sound.proofs.HoldLemmas.{grows_refl, gain_holds, has_gain, one_grows, one_left, one_right, both_holds, leaves_lead}
use Rattle.sh_sound.proofs.ListLemmas.{step_goes, step_ends, turns_to, zero_holds, nonzero_holds}
use Rattle.sh_sound.proofs.StepLemmas.{grown}
use Rattle.sh_sound.proofs.CompoundLemmas.{is_nonzero}
use Rattle.sh_sound.proofs.DropLemmas.{Spares}
use Rattle.sh_sound.proofs.CallLemmas.{known_stepped, behind_known, counted_holds, reached_same}
use Rattle.sh_sound.proofs.FieldsLemmas.{counted_fits}
use Rattle.sh_sound.proofs.OperandsLemmas.{statics_fit, all_static, SetFits, set_fits, first_number_fits, runs_fit, declares_fit, declared_no_job}
use Rattle.sh_sound.proofs.ChangeLemmas.{showing_grows, showing_functions, showing_sets, removed_spares, spares_fewer, none_passes, named_vars, named_functions}
use Rattle.sh_sound.proofs.MannerLemmas.{lose_holds}
use Rattle.sh_sound.proofs.SpecialLemmas.{drops_ok, moves_ok, shift_holds, none_counted, has_names}
use Rattle.sh_sound.proofs.LeaveLemmas.{passed, break_leaves, continue_leaves, return_leaves}

-- a function that is defined after `unset` was defined before
undefined_bodies : (d : Facts) (c : Certificate) (defined : List Text) (e : Environment) (name : Text) → Bodies d c defined e.functions → Bodies d c defined (with_function e name None).functions
unfolding put_text
undefined_bodies d c defined e name h t body k = go (bytes_eq t name) k
  where
    go : (b : Bool) → (if b then None else e.functions t) ≡ Some body → BodyOk d c defined t body
    go true q = cc
    go false q = h t body q

module _ (d : Facts) (c : Certificate) (defined : List Text) (SimpleAt : Around → Work → Seen → Type 0) (base : Around) (e : Environment) (fs : List Frame) (status : ℕ) (ws : List Work) (a : Answer) where
  abbrev Well : List Work → Type 0
  Well us = ProcessOk d c defined SimpleAt base e fs status us

  abbrev Ok : Effect → Type 0
  Ok x = StepOk d c defined SimpleAt base e fs status x

  abbrev f : Frame
  f = front fs

  abbrev x : Around
  x = around base ws

  abbrev pub left_set : p.Elements → Gains
  left_set es = and_gains (assignments_gains es) (redirections_gains es)

  -- What is known of a special built-in utility once its words, redirections and assignments are
  -- done.
  pub record Ready (name : KnownName) (n : ℕ) (es : p.Elements) (operands : List Text) (us : List Work) : Type 0 where
    pub live : Well us
    pub goes_on : Good d c defined SimpleAt base live.callers ws (after_command n)
    pub word : Word
    pub others : List Word
    pub words : words_in (operands_in es) ≡ word ∷ others
    pub quoted : Bool
    pub admitted : kind_rule (surroundings_of x) quoted (kind.Special name) (map static_of others) ≡ None
    pub given : Fields (is_declaration (kind.Special name)) (parameters (behind_facts c n es)) others operands
    pub rules : UtilityRules d c x n es (kind.Special name) others
    pub losses : i.Each (λ l. MayDrop d c x (lost d c n l)) (utility_losses defined (kind.Special name) others)
    pub still : x.shares ≡ true → kind_moves (kind.Special name) others ≡ false
    pub known : OneHolds d c (behind d c n es) e f
    pub settled : OneHolds d c (gaining (left_set es) (behind d c n es)) e f

  module _ (n : ℕ) (es : p.Elements) (ts : List Text) (us : List Work) where
    abbrev b : Seen
    b = behind d c n es

    abbrev s : Seen
    s = gaining (left_set es) b

    abbrev Is : KnownName → Type 0
    Is name = Ready name n es ts us

    -- nothing changes but the status
    leaves_to : {name : KnownName} (r : Is name) (o : After) (now : ℕ) → Leaves d c n o → AfterHolds d c now o e f → Ok (goes e f now ws)
    leaves_to r o now rules h = turns_to d c defined SimpleAt base e fs status now us ws r.live (after_command n) r.goes_on (leaves_lead d c n o rules now e f h)

    colon_ok : Is known.Colon → Ok (goes e f 0 ws)
    unfolding after_utility if_zero
    colon_ok r = leaves_to r _ 0 r.rules.leaves r.settled

    exec_ok : Is known.Exec → Ok (goes e f (if has_command ts then nonzero a.status else a.status) ws)
    unfolding after_utility if_zero if_nonzero is_declaration
    exec_ok r = go (has_command ts) refl
      where
        unrun : (v : Bool) → has_command ts ≡ false → runs_command r.others ≡ v → OneHolds d c (if v then [] else s) e f
        unrun true k q = absurd (true≢false (sym (runs_fit (parameters (behind_facts c n es)) r.others ts q r.given) ∙ k))
        unrun false k q = r.settled

        go : (v : Bool) → has_command ts ≡ v → Ok (goes e f (if v then nonzero a.status else a.status) ws)
        go true k = leaves_to r _ (nonzero a.status) r.rules.leaves (nonzero_holds d c defined SimpleAt (nonzero a.status) (after_utility b r.others (left_set es) (prefixes es) (is_redirected (redirects_in es)) (kind.Special known.Exec)) e f (is_nonzero a.status) r.settled)
        go false k = by (a.status == 0) refl
          where
            by : (z : Bool) → (a.status == 0) ≡ z → Ok (goes e f a.status ws)
            by true z = leaves_to r _ a.status r.rules.leaves (zero_holds d c defined SimpleAt a.status (after_utility b r.others (left_set es) (prefixes es) (is_redirected (redirects_in es)) (kind.Special known.Exec)) e f z (unrun (runs_command r.others) k refl))
            by false z = leaves_to r _ a.status r.rules.leaves (nonzero_holds d c defined SimpleAt a.status (after_utility b r.others (left_set es) (prefixes es) (is_redirected (redirects_in es)) (kind.Special known.Exec)) e f z r.settled)

    -- `export` and `readonly`
    declares_ok : {name : KnownName} (r : Is name) → Fields true (parameters (behind_facts c n es)) r.others ts → Leaves d c n (Both (gaining_names (declared_names r.others) s)) → Ok (goes (showing e (definitions_in ts)) f a.status ws)
    declares_ok r given rules =
        let e' = showing e (definitions_in ts) in
        let grows = showing_grows e (definitions_in ts) in
        let has : Has (named (declared_names r.others)) e' f = record {
          variables = λ t i h. showing_sets e (definitions_in ts) t i (declares_fit (parameters (behind_facts c n es)) r.others ts t given h);
          job = λ h. absurd (declared_no_job r.others h);
          functions = λ t i h. cc;
          parameters = omega arith;
        } in
        step_goes d c defined SimpleAt base e e' fs status a.status ws grows
        (grown d c defined SimpleAt base e fs status ws a e' a.status us ws r.live (after_command n) grows (showing_functions e (definitions_in ts)) r.goes_on
        (leaves_lead d c n (Both (gaining_names (declared_names r.others) s)) rules a.status e' f
        (both_holds d c a.status (gaining_names (declared_names r.others) s) e' f (gain_holds d c (named (declared_names r.others)) s e' f has (one_grows d c s e e' f grows r.settled)))))

    shift_ok : Is known.Shift → Ok (shifted e f ws a (count_operand ts))
    unfolding after_utility after_shift shifted kind_moves is_declaration
    shift_ok r = go (first_number r.others) refl r.rules.leaves
      where
        alone : x.shares ≡ true → ⊥
        alone h = true≢false (r.still h)

        any : (g : Frame) (now : ℕ) → Leaves d c n (Both (stepped (Count (total [])) s)) → Ok (goes e g now ws)
        any g now rules = moves_ok d c defined SimpleAt base e fs status ws g (after_command n) now us r.live r.goes_on alone
            (leaves_lead d c n (Both (stepped (Count (total [])) s)) rules now e g (both_holds d c now (stepped (Count (total [])) s) e g (none_counted d c s e f g r.settled)))

        gone : (k : ℕ) (g : Frame) (now : ℕ) → length f - k ≤ length g → Leaves d c n (Both (stepped (Shift k) s)) → Ok (goes e g now ws)
        gone k g now l rules = moves_ok d c defined SimpleAt base e fs status ws g (after_command n) now us r.live r.goes_on alone
            (leaves_lead d c n (Both (stepped (Shift k) s)) rules now e g (both_holds d c now (stepped (Shift k) s) e g (shift_holds d c k s e f g l r.settled)))

        go : (o : Option ℕ) → first_number r.others ≡ o → Leaves d c n (after_shift b r.others (left_set es) (prefixes es) (is_redirected (redirects_in es)) o) → Ok (shifted e f ws a (count_operand ts))
        go None q rules = by (count_operand ts)
          where
            by : (o : Option ℕ) → Ok (shifted e f ws a o)
            by None = any (drop a.count f) a.status rules
            by (Some k) = which (nat_le k (length f))
              where
                which : (v : Bool) → Ok (if v then goes e (drop k f) 0 ws else goes e f (nonzero a.status) ws)
                which true = any (drop k f) 0 rules
                which false = any f (nonzero a.status) rules
        go (Some k) q rules = subst (λ o. Ok (shifted e f ws a o)) (sym (first_number_fits (parameters (behind_facts c n es)) r.others ts k q r.given)) (which (nat_le k (length f)))
          where
            which : (v : Bool) → Ok (if v then goes e (drop k f) 0 ws else goes e f (nonzero a.status) ws)
            which true = gone k (drop k f) 0 (rw (length-drop k f) (omega arith)) rules
            which false = gone k f (nonzero a.status) (omega arith) rules

    set_ok : Is known.Set → Ok (goes e (set_frame f a (set_words ts)) a.status ws)
    unfolding SetFits after_utility after_set set_frame kind_moves is_declaration kind_rule if_zero if_nonzero
    set_ok r = go (positional_words r.others) (set_words ts) refl (set_fits (parameters (behind_facts c n es)) false r.others ts (passed (sets_known false (map static_of r.others)) _ r.admitted) r.given) r.rules.leaves
      where
        go : (o : Option (List Word)) (q : Option (List Text)) → positional_words r.others ≡ o → SetFits (parameters (behind_facts c n es)) o q
            → Leaves d c n (after_set b r.others (left_set es) (prefixes es) (is_redirected (redirects_in es)) o) → Ok (goes e (set_frame f a q) a.status ws)
        go None None m fit rules = leaves_to r (Both s) a.status rules (both_holds d c a.status s e f r.settled)
        go None (Some qs) m fit rules = absurd fit
        go (Some vs) None m fit rules = absurd fit
        go (Some vs) (Some qs) m fit rules = by (a.status == 0) a.sets_parameters refl
          where
            t : Seen
            t = gaining_names (left_set es).names (stepped (Count (total vs)) b)

            o : After
            o = after_set b r.others (left_set es) (prefixes es) (is_redirected (redirects_in es)) (Some vs)

            alone : x.shares ≡ true → ⊥
            alone h = true≢false (sym (ap is_some m) ∙ r.still h)

            counts : OneHolds d c t e qs
            counts =
                gain_holds d c (named (left_set es).names) (stepped (Count (total vs)) b) e qs (has_names d c (left_set es) e f qs (has_gain d c (left_set es) b e f r.settled))
                (known_stepped d c defined (Count (total vs)) n es e qs (counted_holds c (total vs) (behind_facts c n es) e f qs (behind_known d c defined n es e f r.known) (counted_fits (parameters (behind_facts c n es)) vs qs fit)))

            moved : AfterHolds d c a.status o e qs → Ok (goes e qs a.status ws)
            moved h = moves_ok d c defined SimpleAt base e fs status ws qs (after_command n) a.status us r.live r.goes_on alone (leaves_lead d c n o rules a.status e qs h)

            by : (z v : Bool) → (a.status == 0) ≡ z → Ok (goes e (if z || v then qs else f) a.status ws)
            by true v z = moved (zero_holds d c defined SimpleAt a.status o e qs z counts)
            by false true z = moved (nonzero_holds d c defined SimpleAt a.status o e qs z (one_left d c t s e qs counts))
            by false false z = leaves_to r o a.status rules (nonzero_holds d c defined SimpleAt a.status o e f z (one_right d c t s e f r.settled))

    unset_ok : Is known.Unset → Ok (goes (unset_names e a (unset_operands ts)) f a.status ws)
    unfolding after_utility kind_rule is_declaration utility_losses lost i.Each unset_names operands.unset_names
    unset_ok r = subst (λ us. Ok (goes (unset_names e a (unset_operands us)) f a.status ws)) (sym fits) drops
      where
        fits : ts ≡ statics r.others
        fits = statics_fit (parameters (behind_facts c n es)) r.others ts (all_static r.others (passed (list_all is_some (map static_of r.others)) _ r.admitted)) r.given

        named : List Text
        named = (unset_operands (statics r.others)).1

        raw : Names
        raw = operands.removed (unset_operands (statics r.others)).0 named

        names : Names
        names = operands.unset_names r.others

        counted : Names
        counted = record { vars = names.vars; functions = filter (is_one_of defined) names.functions }

        e' : Environment
        e' = removed_all (unset_operands (statics r.others)).0 a 0 e named

        all : Spares raw e e'
        all = removed_spares (unset_operands (statics r.others)).0 a 0 e named

        spares : Spares names e e'
        spares = spares_fewer raw names e e' (λ t i h. named_vars (unset_operands (statics r.others)).0 named t i h) (λ t i k h. named_functions (unset_operands (statics r.others)).0 named t i h) all

        listed : (t : Text) → is_some (e.functions t) ≡ true → is_one_of defined t ≡ true
        listed t k = by (e.functions t) refl k
          where
            by : (o : Option p.Command) → e.functions t ≡ o → is_some o ≡ true → is_one_of defined t ≡ true
            by None q k = absurd (false≢true k)
            by (Some body) q k = (r.live.bodies t body q).listed

        spares_counted : Spares counted e e'
        spares_counted = spares_fewer names counted e e' (λ t i h. h) (λ t i k h. none_passes (is_one_of defined) names.functions t (listed t k) h) spares

        may : MayDrop d c x counted
        may = subst (MayDrop d c x) (reached_same (words_gains (operands_in es)) (facts (c.claim (Before n))) counted e f (behind_known d c defined n es e f r.known)) r.losses.0

        bodies : Bodies d c defined e'.functions
        bodies = all_removed_kept (λ (y : Environment). Bodies d c defined y.functions) (λ y name k. k) (λ y name k. undefined_bodies d c defined y name k) (unset_operands (statics r.others)).0 a 0 e named r.live.bodies

        drops : Ok (goes e' f a.status ws)
        drops =
            drops_ok d c defined SimpleAt base e fs status ws counted (after_command n) a.status e' us r.live r.goes_on may spares_counted bodies
            (leaves_lead d c n (Both (stepped (Lose names) s)) r.rules.leaves a.status e' f (both_holds d c a.status (stepped (Lose names) s) e' f (lose_holds d c names s e e' f spares r.settled)))

    pub special_ok : (name : KnownName) → Is name → Ok (special e f status ws a (operands_in es) name ts)
    unfolding special after_utility is_declaration
    special_ok known.Colon r = colon_ok r
    special_ok known.Break r = break_leaves d c defined SimpleAt base e fs status ws a _ r.quoted (operands_in es) r.others ts s (after_command n) us r.live r.goes_on r.given r.admitted r.rules.jumps r.settled
    special_ok known.Continue r = continue_leaves d c defined SimpleAt base e fs status ws a _ r.quoted (operands_in es) r.others ts s (after_command n) us r.live r.goes_on r.given r.admitted r.rules.jumps r.settled
    special_ok known.Return r = return_leaves d c defined SimpleAt base e fs status ws a r.quoted (operands_in es) r.word r.others ts s (after_command n) us r.live r.goes_on r.words r.admitted r.rules.jumps r.settled
    special_ok known.Exec r = exec_ok r
    special_ok known.Exit r = step_ends d c defined SimpleAt base e e fs status (grows_refl e) r.live.bodies
    special_ok known.Export r = declares_ok r r.given r.rules.leaves
    special_ok known.Readonly r = declares_ok r r.given r.rules.leaves
    special_ok known.Set r = set_ok r
    special_ok known.Shift r = shift_ok r
    special_ok known.Unset r = unset_ok r
    special_ok known.Times r = leaves_to r _ a.status r.rules.leaves (both_holds d c a.status s e f r.settled)
    special_ok known.Trap r = leaves_to r _ a.status r.rules.leaves (both_holds d c a.status s e f r.settled)
    special_ok name r = leaves_to r _ a.status r.rules.leaves (both_holds d c a.status b e f r.known)
