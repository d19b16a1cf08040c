-- Utilities that are not special built-ins: their redirections and prefix assignments, and what the
-- table says of each.
use Rattle.std.proofs.Common.{◌≡◌, ℕ, ◌==◌, Bool, true, false, not, ◌&&◌, ◌||◌, if◌then◌else◌, Option, Some, None, is_some, unwrap_or, List, [], ◌∷◌, ◌++◌, map, filter, codes, bytes_eq, inl, inr, refl, sym, ap, subst, ◌∙◌, arith}
use Rattle.std.specs.List.{list_all}
use Rattle.std.proofs.lemmas.Bool.{and_parts, or_cases, false≢true, true≢false, not-true}
use Rattle.std.proofs.lemmas.Slice.Eq.{bytes_eq-Decides}
use Rattle.sh_tree.specs.standard.language.Bytes.{is_name}
use Rattle.sh_tree.specs.standard.program.Syntax as p
use Rattle.sh_tree.specs.standard.program.Syntax.{Text, Word}
use Rattle.sh_tree.specs.standard.program.Words.{operands_in}
use Rattle.sh_runs.specs.declared.kind.Kind.{Kind}
use Rattle.sh_runs.specs.declared.kind.Kind.TheVariants as kind
use Rattle.sh_runs.specs.standard.Kinds.{Table, look_up, all_names, kind_of}
use Rattle.sh_runs.specs.standard.runs.Environment.{Environment, Frame, is_one_of, with_variable}
use Rattle.sh_runs.specs.standard.runs.Answers.{Answer}
use Rattle.sh_runs.specs.standard.runs.Builtins.{nonzero, read_into, reads, gets_option, changes_directory, utility}
use Rattle.sh_runs.specs.standard.runs.Operands as o
use Rattle.sh_runs.specs.standard.runs.Operands.{getopts_name}
use Rattle.sh_runs.specs.standard.runs.Work.{Work, Effect, goes}
use Rattle.sh_domain.specs.Entries.{Around}
use Rattle.sh_domain.specs.Facts.{Facts, NotReached, Known, Function, claims, facts}
use Rattle.sh_domain.specs.Gains.{Gains, job, named, words_gains}
use Rattle.sh_domain.specs.Inclusions as i
use Rattle.sh_domain.specs.Inclusions.{Leaves, MayDrop, CallRules, behind}
use Rattle.sh_domain.specs.Operands.{Names, no_names, read_names, getopts_names}
use Rattle.sh_domain.specs.Rules.{utility_losses, losses_by}
use Rattle.sh_domain.specs.Table as table
use Rattle.sh_domain.specs.Table.{is_special, prefixes, after_utility}
use Rattle.sh_domain.specs.Views as views
use Rattle.sh_domain.specs.Views.{Certificate, Slot, Before, AfterZero, AfterNonzero, ReturnsZero, ReturnsNonzero, Seen, After, Each, Both, if_zero, if_nonzero, after_command, gaining_names, stepped, Lose, OfNames, OfUnseen, lost, where_known, passes, called, step}
use Rattle.sh_sound.specs.Fields.{Fields}
use Rattle.sh_sound.specs.Holding.{Holds, Has, Grows, OneHolds, AfterHolds}
use Rattle.sh_sound.specs.Going.{around, front, Bodies, Good, ProcessOk, StepOk}
use Rattle.sh_sound.specs.Doing.{behind_facts}
use Rattle.sh_sound.proofs.HoldLemmas.{grows_refl, each_left, covers_at, gain_holds, one_grows, both_holds, leaves_lead}
use Rattle.sh_sound.proofs.ExpansionLemmas.{job_no_name, one_name}
use Rattle.sh_sound.proofs.ListLemmas.{step_goes, zero_holds, nonzero_holds}
use Rattle.sh_sound.proofs.StepLemmas.{grown}
use Rattle.sh_sound.proofs.CompoundLemmas.{is_nonzero}
use Rattle.sh_sound.proofs.DropLemmas.{Spares}
use Rattle.sh_sound.proofs.CallLemmas.{known_stepped, behind_known, reached_same}
use Rattle.sh_sound.proofs.OperandsLemmas.{read_fits, getopts_fits}
use Rattle.sh_sound.proofs.ChangeLemmas.{read_grows, read_functions, read_sets, directory_grows, directory_functions, option_begun, option_is, option_grows, option_functions, optarg, put_spares, grows_spares, passes_one}
use Rattle.sh_sound.proofs.MannerLemmas.{lose_holds}
use Rattle.sh_sound.proofs.SpecialLemmas.{drops_ok}

-- what `read` gives a value has a name
read_named : (ts : List Text) (t : Text) → is_one_of (unwrap_or (o.read_names ts) []) t ≡ true → is_name t ≡ true
read_named ts t h = go (o.read_from false ts) refl
  where
    go : (q : Option (List Text)) → o.read_from false ts ≡ q → is_name t ≡ true
    go None q = absurd (false≢true (rw q at h))
    go (Some names) q = let k : is_one_of (filter is_name names) t ≡ true = rw q at h in (passes_one is_name names t k).1

-- `getopts` is the one name of its kind

is_getopts : Kind → Bool
is_getopts kind.Getopts = true
is_getopts _ = false

alone_named : Text × Kind → Bool
alone_named r = not (is_getopts r.1) || bytes_eq (codes "getopts") r.0

getopts_row : (x : Table) (t : Text) → list_all alone_named x ≡ true → is_getopts (look_up x t) ≡ true → bytes_eq (codes "getopts") t ≡ true
unfolding look_up is_getopts alone_named
getopts_row [] t h k = absurd (false≢true k)
getopts_row (r ∷ x) t h k = go (bytes_eq r.0 t) refl k (λ l. getopts_row x t (and_parts (alone_named r) (list_all alone_named x) h).1 l)
  where
    go : (b : Bool) → bytes_eq r.0 t ≡ b → is_getopts (if b then r.1 else look_up x t) ≡ true → (is_getopts (look_up x t) ≡ true → bytes_eq (codes "getopts") t ≡ true) → bytes_eq (codes "getopts") t ≡ true
    go true e l more =
        let first : (not (is_getopts r.1) || bytes_eq (codes "getopts") r.0) ≡ true = (and_parts (alone_named r) (list_all alone_named x) h).0 in
        let named : bytes_eq (codes "getopts") r.0 ≡ true = subst (λ v. (not v || bytes_eq (codes "getopts") r.0) ≡ true) l first in
        subst (λ u. bytes_eq (codes "getopts") u ≡ true) ((bytes_eq-Decides r.0 t).0 e) named
    go false e l more = more l

getopts_text : (t : Text) → kind_of t ≡ kind.Getopts → bytes_eq t (codes "getopts") ≡ true
unfolding kind_of look_up is_getopts alone_named
getopts_text t h =
    let named = getopts_row all_names t refl (ap is_getopts h) in
    (bytes_eq-Decides t (codes "getopts")).1 (sym ((bytes_eq-Decides (codes "getopts") t).0 named))

-- where the function is not defined, what the utility leaves is what the rules of a call allow
uncalled_holds : (drops : Names) (r y : Facts) (t : Text) (ns : List Text) (names : Names) (e e' : Environment) (f : Frame) → Spares names e e' → ((u : Text) → passes t u ≡ true → is_one_of names.vars u ≡ false)
    → ((u : Text) → is_one_of names.functions u ≡ false) → claims y (Function t) ≡ false → Holds y e f → Holds (called drops r t ns y) e' f
unfolding Holds called where_known claims
uncalled_holds drops r NotReached t ns names e e' f k v g u h = absurd h
uncalled_holds drops r (Known w q m) t ns names e e' f k v g u h = subst (λ b. Holds (if b then views.returned drops ns r w q m else Known (λ x. views.kept drops.vars w x && passes t x) (λ x. views.kept drops.functions q x) m) e' f) (sym u) record {
  variables = λ x i s.
      let both = and_parts (views.kept drops.vars w x) (passes t x) s in
      k.variables x i (v x both.1) (h.variables x i (and_parts (w x) (not (is_one_of drops.vars x)) both.0).0);
  job = λ s. k.job (h.job (and_parts (w job) (not (is_one_of drops.vars job)) (and_parts (views.kept drops.vars w job) (passes t job) s).0).0);
  functions = λ x i s. k.functions x i (g x) (h.functions x i (and_parts (q x) (not (is_one_of drops.functions x)) s).0);
  parameters = h.parameters;
}

module _ (d : Facts) (c : Certificate) (defined : List Text) (SimpleAt : Around → Work → Seen → Type 0) (base : Around) (e : Environment) (fs : List Frame) (status : ℕ) (ws : List Work) (a : Answer) where
  abbrev Well : List Work → Type 0
  Well us = ProcessOk d c defined SimpleAt base e fs status us

  abbrev Ok : Effect → Type 0
  Ok y = StepOk d c defined SimpleAt base e fs status y

  abbrev f : Frame
  f = front fs

  abbrev x : Around
  x = around base ws

  module _ (n : ℕ) (es : p.Elements) (ts : List Text) (us : List Work) (live : Well us) (goes_on : Good d c defined SimpleAt base live.callers ws (after_command n)) (all : List Text) where
    abbrev b : Seen
    b = behind d c n es

    abbrev began : Environment
    began = option_begun all e a (getopts_name ts)

    abbrev got : Environment
    got = with_variable began (codes "OPTARG") (a.values 2)

    got_spares : Spares optarg e got
    got_spares = grows_spares optarg e began got (option_grows all e a (getopts_name ts)) (put_spares began (codes "OPTARG") (a.values 2))

    -- a step of a utility that unsets nothing
    grows_to : (o : After) (e' : Environment) (now : ℕ) → Leaves d c n o → Grows e e' → e'.functions ≡ e.functions → AfterHolds d c now o e' f → Ok (goes e' f now ws)
    grows_to o e' now rules g same h =
        step_goes d c defined SimpleAt base e e' fs status now ws g
        (grown d c defined SimpleAt base e fs status ws a e' now us ws live (after_command n) g same goes_on (leaves_lead d c n o rules now e' f h))

    -- `getopts` may unset OPTARG
    gets_to : MayDrop d c x optarg → AfterHolds d c a.status (after_command n) got f → Ok (goes (gets_option all e a (getopts_name ts)) f a.status ws)
    gets_to may h =
        subst (λ y. Ok (goes y f a.status ws)) (sym (option_is all e a (getopts_name ts)))
        (drops_ok d c defined SimpleAt base e fs status ws optarg (after_command n) a.status got us live goes_on may got_spares
        (subst (Bodies d c defined) (sym (option_functions all e a (getopts_name ts))) live.bodies) h)

    reached_optarg : OneHolds d c b e f → MayDrop d c x (lost d c n (OfNames optarg)) → MayDrop d c x optarg
    unfolding lost
    reached_optarg h k = subst (MayDrop d c x) (reached_same (words_gains (operands_in es)) (facts (c.claim (Before n))) optarg e f (behind_known d c defined n es e f h)) k

    -- whatever a utility does, except for `getopts`, grows
    by_kind : (k : Kind) → (k ≡ kind.Getopts → Ok (goes (gets_option all e a (getopts_name ts)) f a.status ws))
        → ((e' : Environment) (now : ℕ) → Grows e e' → e'.functions ≡ e.functions → Ok (goes e' f now ws)) → Ok (utility all e f ws a k ts)
    unfolding utility reads
    by_kind kind.True gets grows = grows e 0 (grows_refl e) refl
    by_kind kind.False gets grows = grows e (nonzero a.status) (grows_refl e) refl
    by_kind kind.Read gets grows = go (o.read_names ts)
      where
        go : (q : Option (List Text)) → Ok (reads all e f ws a q)
        go None = grows e (nonzero a.status) (grows_refl e) refl
        go (Some names) = grows (read_into all a 0 e names) a.status (read_grows all a 0 e names) (read_functions all a 0 e names)
    by_kind kind.Getopts gets grows = gets refl
    by_kind kind.Cd gets grows = grows (changes_directory e a) a.status (directory_grows e a) (directory_functions e a)
    by_kind k gets grows = grows e a.status (grows_refl e) refl

    -- a function of the name may be called elsewhere: here none is defined
    pub uncalled_ok : (t : Text) (others : List Word) → CallRules d c n es t others → i.Each (λ l. MayDrop d c x (lost d c n l)) (losses_by defined es b (table.Call t others))
        → claims (behind_facts c n es) (Function t) ≡ false → OneHolds d c b e f → Ok (utility all e f ws a (kind_of t) ts)
    unfolding losses_by i.Each if_zero if_nonzero passes step
    uncalled_ok t others rules losses unclaimed h =
        by_kind (kind_of t)
        (λ k. let text = getopts_text t k in
        gets_to (reached_optarg h (optarg_lost text)) (after a.status got optarg got_spares (λ u l. passing u text l) (λ u. refl)))
        (λ e' now g same.
        step_goes d c defined SimpleAt base e e' fs status now ws g
        (grown d c defined SimpleAt base e fs status ws a e' now us ws live (after_command n) g same goes_on (after now e' no_names (nothing_spared e' g) (λ u l. refl) (λ u. refl))))
      where
        nothing_spared : (e' : Environment) → Grows e e' → Spares no_names e e'
        nothing_spared e' g = record { variables = λ u i n s. g.variables u i s; functions = λ u i n s. g.functions u i s; job = g.job }

        optarg_lost : bytes_eq t (codes "getopts") ≡ true → MayDrop d c x (lost d c n (OfNames optarg))
        optarg_lost text =
            (each_left (λ l. MayDrop d c x (lost d c n l)) (OfNames optarg ∷ []) (map (OfUnseen (prefixes es)) b)
            (subst (λ v. i.Each (λ l. MayDrop d c x (lost d c n l)) ((if v then OfNames optarg ∷ [] else []) ++ map (OfUnseen (prefixes es)) b)) text losses.1)).0

        passing : (u : Text) → bytes_eq t (codes "getopts") ≡ true → passes t u ≡ true → is_one_of (codes "OPTARG" ∷ []) u ≡ false
        passing u text l = go (is_one_of (codes "OPTARG" ∷ []) u) refl
          where
            go : (v : Bool) → is_one_of (codes "OPTARG" ∷ []) u ≡ v → is_one_of (codes "OPTARG" ∷ []) u ≡ false
            go false q = q
            go true q =
                let same : codes "OPTARG" ≡ u = one_name (codes "OPTARG") u q in
                let here : bytes_eq u (codes "OPTARG") ≡ true = (bytes_eq-Decides u (codes "OPTARG")).1 (sym same) in
                absurd (true≢false (sym l ∙ rw (text, here) refl))

        after : (now : ℕ) (e' : Environment) (names : Names) → Spares names e e' → ((u : Text) → passes t u ≡ true → is_one_of names.vars u ≡ false) → ((u : Text) → is_one_of names.functions u ≡ false)
            → AfterHolds d c now (after_command n) e' f
        after now e' names k v g = go (now == 0) refl
          where
            holds : (slot : Slot) → Holds (called (c.drops t) (facts (c.claim slot)) t (prefixes es) (behind_facts c n es)) e' f
            holds slot = uncalled_holds (c.drops t) (facts (c.claim slot)) (behind_facts c n es) t (prefixes es) names e e' f k v g unclaimed (behind_known d c defined n es e f h)

            go : (z : Bool) → (now == 0) ≡ z → AfterHolds d c now (after_command n) e' f
            go true z =
                zero_holds d c defined SimpleAt now (after_command n) e' f z
                (covers_at d c (AfterZero n) _ rules.zero e' f (known_stepped d c defined (views.Call t (ReturnsZero t) (prefixes es)) n es e' f (holds (ReturnsZero t))))
            go false z =
                nonzero_holds d c defined SimpleAt now (after_command n) e' f z
                (covers_at d c (AfterNonzero n) _ rules.nonzero e' f (known_stepped d c defined (views.Call t (ReturnsNonzero t) (prefixes es)) n es e' f (holds (ReturnsNonzero t))))

    -- The table

    abbrev unprefixed : List Text → List Text
    unprefixed xs = filter (λ y. not (is_one_of all y)) xs

    -- on zero `read` sets its names
    read_has : (others : List Word) (m : ℕ) (names : List Text) → Fields false m others ts → (a.status == 0) ≡ true → o.read_names ts ≡ Some names → Has (named (unprefixed (read_names others))) (read_into all a 0 e names) f
    read_has others m names given z q = record {
      variables = λ t i h.
          let both = passes_one (λ y. not (is_one_of all y)) (read_names others) t h in
          read_sets all a 0 e names t z i (not-true (is_one_of all t) both.1) (subst (λ p. is_one_of (unwrap_or p []) t ≡ true) q (read_fits m others ts t both.0 given));
      job = λ h. absurd (job_no_name job (read_named ts job (read_fits m others ts job (passes_one (λ y. not (is_one_of all y)) (read_names others) job h).0 given)) refl);
      functions = λ t i h. cc;
      parameters = omega arith;
    }

    read_ok : (others : List Word) (m : ℕ) → Fields false m others ts → Leaves d c n (Each (gaining_names (unprefixed (read_names others)) b) b) → OneHolds d c b e f → Ok (reads all e f ws a (o.read_names ts))
    unfolding reads if_zero if_nonzero
    read_ok others m given rules h = go (o.read_names ts) refl
      where
        p : After
        p = Each (gaining_names (unprefixed (read_names others)) b) b

        go : (q : Option (List Text)) → o.read_names ts ≡ q → Ok (reads all e f ws a q)
        go None q = grows_to p e (nonzero a.status) rules (grows_refl e) refl (nonzero_holds d c defined SimpleAt (nonzero a.status) p e f (is_nonzero a.status) h)
        go (Some names) q = grows_to p now a.status rules grows (read_functions all a 0 e names) (by (a.status == 0) refl)
          where
            now : Environment
            now = read_into all a 0 e names

            grows : Grows e now
            grows = read_grows all a 0 e names

            by : (z : Bool) → (a.status == 0) ≡ z → AfterHolds d c a.status p now f
            by true z = zero_holds d c defined SimpleAt a.status p now f z
                (gain_holds d c (named (unprefixed (read_names others))) b now f (read_has others m names given z q) (one_grows d c b e now f grows h))
            by false z = nonzero_holds d c defined SimpleAt a.status p now f z (one_grows d c b e now f grows h)

    -- on zero `getopts` sets its name and OPTIND
    option_has : (others : List Word) (m : ℕ) → Fields false m others ts → (a.status == 0) ≡ true → Has (named (unprefixed (getopts_names others))) began f
    unfolding option_begun
    option_has others m given z = record {
      variables = λ t i h.
          let both = passes_one (λ y. not (is_one_of all y)) (getopts_names others) t h in
          let g = getopts_fits m others ts t both.0 given in
          subst (λ q. is_some ((option_begun all e a q).variables t) ≡ true) (sym g.1) (read_sets all a 0 e (g.0 ∷ codes "OPTIND" ∷ []) t z i (not-true (is_one_of all t) both.1) g.2);
      job = λ h.
          let both = passes_one (λ y. not (is_one_of all y)) (getopts_names others) job h in
          let g = getopts_fits m others ts job both.0 given in
          elim (or_cases (bytes_eq g.0 job) false g.2) [
            | inl same ↦ absurd (job_no_name g.0 g.3 ((bytes_eq-Decides g.0 job).0 same))
            | inr other ↦ absurd (false≢true other)
          ];
      functions = λ t i h. cc;
      parameters = omega arith;
    }

    getopts_ok : (others : List Word) (m : ℕ) → Fields false m others ts → Leaves d c n (Each (stepped (Lose optarg) (gaining_names (unprefixed (getopts_names others)) b)) (stepped (Lose optarg) b))
        → MayDrop d c x optarg → OneHolds d c b e f → Ok (goes (gets_option all e a (getopts_name ts)) f a.status ws)
    unfolding if_zero if_nonzero
    getopts_ok others m given rules may h = gets_to may (leaves_lead d c n p rules a.status got f (by (a.status == 0) refl))
      where
        p : After
        p = Each (stepped (Lose optarg) (gaining_names (unprefixed (getopts_names others)) b)) (stepped (Lose optarg) b)

        known : OneHolds d c b began f
        known = one_grows d c b e began f (option_grows all e a (getopts_name ts)) h

        spares : Spares optarg began got
        spares = put_spares began (codes "OPTARG") (a.values 2)

        by : (z : Bool) → (a.status == 0) ≡ z → AfterHolds d c a.status p got f
        by true z = zero_holds d c defined SimpleAt a.status p got f z
            (lose_holds d c optarg (gaining_names (unprefixed (getopts_names others)) b) began got f spares
            (gain_holds d c (named (unprefixed (getopts_names others))) b began f (option_has others m given z) known))
        by false z = nonzero_holds d c defined SimpleAt a.status p got f z (lose_holds d c optarg b began got f spares known)

    pub table_ok : (k : Kind) (others : List Word) (m : ℕ) (left : Gains) (redirected : Bool) → is_special k ≡ false → Fields false m others ts → Leaves d c n (after_utility b others left all redirected k)
        → i.Each (λ l. MayDrop d c x (lost d c n l)) (utility_losses defined k others) → OneHolds d c b e f → Ok (utility all e f ws a k ts)
    unfolding utility after_utility utility_losses is_special i.Each if_zero if_nonzero
    table_ok (kind.Special name) others m left redirected plain given rules losses h = absurd (true≢false plain)
    table_ok kind.True others m left redirected plain given rules losses h = grows_to (after_utility b others left all redirected kind.True) e 0 rules (grows_refl e) refl h
    table_ok kind.False others m left redirected plain given rules losses h =
        grows_to (after_utility b others left all redirected kind.False) e (nonzero a.status) rules (grows_refl e) refl
        (nonzero_holds d c defined SimpleAt (nonzero a.status) (after_utility b others left all redirected kind.False) e f (is_nonzero a.status) h)
    table_ok kind.Read others m left redirected plain given rules losses h = read_ok others m given rules h
    table_ok kind.Getopts others m left redirected plain given rules losses h = getopts_ok others m given rules (reached_optarg h losses.0) h
    table_ok kind.Cd others m left redirected plain given rules losses h =
        grows_to (Both b) (changes_directory e a) a.status rules (directory_grows e a) (directory_functions e a) (both_holds d c a.status b (changes_directory e a) f (one_grows d c b e (changes_directory e a) f (directory_grows e a) h))
    table_ok k others m left redirected plain given rules losses h = grows_to (Both b) e a.status rules (grows_refl e) refl (both_holds d c a.status b e f h)
