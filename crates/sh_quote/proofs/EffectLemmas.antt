-- What keeps an environment good, and what an expansion and a step make of it.
use Rattle.std.proofs.Common.{◌≡◌, ℕ, ◌+◌, Bool, true, false, if◌then◌else◌, Option, Some, None, List, [], ◌∷◌, ◌++◌, codes, bytes_eq, refl, sym, subst, ◌∙◌}
use Rattle.std.specs.List.{list_any, list_all, cons_option}
use Rattle.std.proofs.lemmas.Bool.{and_parts, or_parts, cond_both, true≢false}
use Rattle.std.proofs.lemmas.Option.{none-some}
use Rattle.std.proofs.lemmas.Slice.Eq.{bytes_eq-Decides}
use Rattle.sh_tree.specs.standard.program.Syntax as p
use Rattle.sh_tree.specs.standard.program.Syntax.{Text}
use Rattle.sh_runs.specs.Quoting.{is_ifs, is_steady}
use Rattle.sh_runs.specs.Surroundings.{outside}
use Rattle.sh_runs.specs.standard.runs.Environment.{Environment, Frame, with_variable, with_function, put_text, showing, hiding, copied}
use Rattle.sh_runs.specs.standard.runs.Answers.{Given, Answer}
use Rattle.sh_runs.specs.standard.runs.Builtins.{restored, unset_names, given_to, read_into, gets_option, changes_directory}
use Rattle.sh_runs.specs.standard.runs.Expansion.{Context, expand}
use Rattle.sh_runs.specs.standard.runs.Operands.{definition_in, definitions_in, Removal}
use Rattle.sh_runs.specs.standard.runs.States.{State, Copy, fresh}
use Rattle.sh_runs.specs.standard.runs.Steps.{unless_ended}
use Rattle.sh_runs.specs.standard.runs.Work.{Work, Saved, Start, Effect, goes, ends, of_copies, after_expansion}
use Rattle.sh_runs.proofs.EnvironmentLemmas.{all_removed_kept}
use Rattle.sh_runs.proofs.ExpansionLemmas.{Closed, word_stays}
use Rattle.sh_runs.proofs.ProcessLemmas.{StartHolds, StartsHold, NextHolds}
use Rattle.sh_quote.specs.Steady.{steady_definition, steady_field}
use Rattle.sh_quote.specs.Invariant.{watched, is_good, WordGood, ItemsGood, CommandGood, SavedGood, ShownGood, WorkGood, AllWorkGood, EnvironmentGood}
use Rattle.sh_quote.proofs.SteadyLemmas.{either_or}

-- the one name that is IFS
is_the_name : (name : Text) → bytes_eq (codes "IFS") name ≡ true → is_ifs name ≡ true
is_the_name name h = (bytes_eq-Decides name (codes "IFS")).1 (sym ((bytes_eq-Decides (codes "IFS") name).0 h))

module _ (numbers : Bool) where
  -- Environments

  abbrev pub Fits : Text → Option Text → Type 0
  Fits name v = watched numbers name ≡ true → is_steady v ≡ true

  pub set_good : (e : Environment) (name : Text) (v : Option Text) → EnvironmentGood numbers e → Fits name v → EnvironmentGood numbers (with_variable e name v)
  unfolding put_text
  set_good e name v h k = record { ifs = λ n. go n (bytes_eq (codes "IFS") name) refl; functions = h.functions }
    where
      go : numbers ≡ true → (b : Bool) → bytes_eq (codes "IFS") name ≡ b → is_steady (if b then v else e.variables (codes "IFS")) ≡ true
      go n true q = k (rw (n, is_the_name name q) refl)
      go n false q = h.ifs n

  pub other_fits : (name : Text) (v : Option Text) → is_ifs name ≡ false → Fits name v
  other_fits name v h k = absurd (true≢false (sym (and_parts numbers (is_ifs name) k).1 ∙ h))

  pub unwatched_fits : (name : Text) (v : Option Text) → watched numbers name ≡ false → Fits name v
  unwatched_fits name v h k = absurd (true≢false (sym k ∙ h))

  pub unset_fits : (name : Text) → Fits name None
  unfolding is_steady
  unset_fits name k = refl

  -- the value that a name has in a good environment
  pub had_fits : (e : Environment) (name : Text) → EnvironmentGood numbers e → Fits name (e.variables name)
  had_fits e name h k =
      let q = and_parts numbers (is_ifs name) k in
      subst (λ t. is_steady (e.variables t) ≡ true) (sym ((bytes_eq-Decides name (codes "IFS")).0 q.1)) (h.ifs q.0)

  pub function_good : (e : Environment) (name : Text) (body : Option p.Command) → EnvironmentGood numbers e → ((c : p.Command) → body ≡ Some c → CommandGood numbers c) → EnvironmentGood numbers (with_function e name body)
  unfolding put_text
  function_good e name body h k = record { ifs = h.ifs; functions = λ t c q. go t c (bytes_eq t name) q }
    where
      go : (t : Text) (c : p.Command) (b : Bool) → (if b then body else e.functions t) ≡ Some c → CommandGood numbers c
      go t c true q = k c q
      go t c false q = h.functions t c q

  pub undefined_good : (e : Environment) (name : Text) → EnvironmentGood numbers e → EnvironmentGood numbers (with_function e name None)
  undefined_good e name h = function_good e name None h (λ c q. absurd (none-some c q))

  pub copied_good : (b : Bool) (e : Environment) → EnvironmentGood numbers e → EnvironmentGood numbers (copied b e)
  copied_good b e h = record { ifs = h.ifs; functions = h.functions }

  pub showing_good : (e : Environment) (xs : List (Text × Text)) → ShownGood numbers xs → EnvironmentGood numbers e → EnvironmentGood numbers (showing e xs)
  unfolding showing ShownGood
  showing_good e [] h k = k
  showing_good e (x ∷ xs) h k = showing_good (with_variable e x.0 (Some x.1)) xs h.1 (set_good e x.0 (Some x.1) k h.0)

  pub hiding_good : {A : Type 0} (e : Environment) (xs : List (Text × A)) (d : Environment) → EnvironmentGood numbers e → EnvironmentGood numbers d → EnvironmentGood numbers (hiding e xs d)
  unfolding hiding
  hiding_good e [] d h k = k
  hiding_good e (x ∷ xs) d h k = hiding_good e xs (with_variable d x.0 (e.variables x.0)) h (set_good d x.0 (e.variables x.0) k (had_fits e x.0 h))

  pub restored_good : (restores : ℕ → Bool) (n : ℕ) (e : Environment) (xs : Saved) → SavedGood numbers xs → EnvironmentGood numbers e → EnvironmentGood numbers (restored restores n e xs)
  unfolding restored SavedGood
  restored_good restores n e [] h k = k
  restored_good restores n e (x ∷ xs) h k =
      restored_good restores (n + 1) (if restores n then with_variable e x.0 x.1 else e) xs h.1
      (cond_both (restores n) (with_variable e x.0 x.1) e (EnvironmentGood numbers) (λ b. set_good e x.0 x.1 k h.0) (λ b. k))

  -- Built-in utilities

  pub definitions_good : (ts : List Text) → list_all steady_field ts ≡ true → ShownGood numbers (definitions_in ts)
  unfolding steady_definition ShownGood
  definitions_good [] h = tt
  definitions_good (t ∷ ts) h =
      let q = and_parts (steady_field t) (list_all steady_field ts) h in go (definition_in t) q.0 (definitions_good ts q.1)
    where
      go : (o : Option (Text × Text)) → steady_definition o ≡ true → ShownGood numbers (definitions_in ts) → ShownGood numbers (cons_option o (definitions_in ts))
      go None d k = k
      go (Some x) d k = ((λ w. either_or (is_ifs x.0) (is_steady (Some x.1)) d (and_parts numbers (is_ifs x.0) w).1), k)

  pub unset_good : (e : Environment) (a : Answer) (x : Removal × List Text) → EnvironmentGood numbers e → EnvironmentGood numbers (unset_names e a x)
  unfolding unset_names
  unset_good e a x h = all_removed_kept (EnvironmentGood numbers) (λ d name k. set_good d name None k (unset_fits name)) undefined_good x.0 a 0 e x.1 h

  given_good : (may_stay : Bool) (e : Environment) (name : Text) (v : Option Text) → is_ifs name ≡ false → EnvironmentGood numbers e → EnvironmentGood numbers (given_to may_stay e name v)
  unfolding given_to
  given_good may_stay e name (Some t) i h = set_good e name (Some t) h (other_fits name (Some t) i)
  given_good true e name None i h = h
  given_good false e name None i h = set_good e name (Some []) h (other_fits name (Some []) i)

  pub read_good : (prefixes : List Text) (a : Answer) (n : ℕ) (e : Environment) (names : List Text) → list_any is_ifs names ≡ false → EnvironmentGood numbers e
      → EnvironmentGood numbers (read_into prefixes a n e names)
  unfolding read_into
  read_good prefixes a n e [] i h = h
  read_good prefixes a n e (name ∷ names) i h =
      let q = or_parts (is_ifs name) (list_any is_ifs names) i in
      read_good prefixes a (n + 1) _ names q.1 (given_good _ e name (a.values n) q.0 h)

  pub option_good : (prefixes : List Text) (e : Environment) (a : Answer) (o : Option Text) → ((name : Text) → o ≡ Some name → is_ifs name ≡ false) → EnvironmentGood numbers e
      → EnvironmentGood numbers (gets_option prefixes e a o)
  unfolding gets_option
  option_good prefixes e a None i h =
      set_good _ (codes "OPTARG") (a.values 2) (given_good true e (codes "OPTIND") (a.values 1) refl h) (other_fits (codes "OPTARG") (a.values 2) refl)
  option_good prefixes e a (Some name) i h =
      set_good _ (codes "OPTARG") (a.values 2) (read_good prefixes a 0 e (name ∷ codes "OPTIND" ∷ []) (rw (i name refl) refl) h) (other_fits (codes "OPTARG") (a.values 2) refl)

  pub directory_good : (e : Environment) (a : Answer) → EnvironmentGood numbers e → EnvironmentGood numbers (changes_directory e a)
  unfolding changes_directory
  directory_good e a h = given_good true _ (codes "OLDPWD") (a.values 1) refl (given_good true e (codes "PWD") (a.values 0) refl h)

  -- Expansions

  -- the processes of substitutions
  unfoldable pub CopiesGood : List Copy → Type 0
  CopiesGood [] = Unit {0}
  CopiesGood (c ∷ cs) = (EnvironmentGood numbers c.environment × ItemsGood numbers c.list) × CopiesGood cs

  one_more : (cs : List Copy) (c : Copy) → CopiesGood cs → EnvironmentGood numbers c.environment × ItemsGood numbers c.list → CopiesGood (cs ++ c ∷ [])
  unfolding CopiesGood
  one_more [] c h k = (k, tt)
  one_more (d ∷ ds) c h k = (h.0, one_more ds c h.1 k)

  pub record StateGood (s : State) : Type 0 where
    pub environment : EnvironmentGood numbers s.environment
    pub copies : CopiesGood s.copies

  closed : Closed (watched numbers) (is_good numbers) StateGood
  unfolding ItemsGood
  closed = record {
    takes = λ s h. record { environment = h.environment; copies = h.copies };
    meets = λ s h. record { environment = h.environment; copies = h.copies };
    ends = λ s h. record { environment = h.environment; copies = h.copies };
    strays = λ s h. record { environment = h.environment; copies = h.copies };
    sets = λ s name v i h. record { environment = set_good s.environment name (Some v) h.environment (unwatched_fits name (Some v) i); copies = h.copies };
    starts = λ s carries list l h. record {
      environment = h.environment;
      copies = one_more s.copies _ h.copies (copied_good carries s.environment h.environment, (outside, l));
    };
  }

  -- what the expansion of a good word leaves
  pub expands : (f : Frame) (status : ℕ) (c : Context) (w : p.Word) (e : Environment) (given : ℕ → Given) → WordGood numbers w → EnvironmentGood numbers e
      → StateGood (expand f status c w (fresh e given)).state
  unfolding CopiesGood
  expands f status c w e given h k =
      word_stays (watched numbers) (is_good numbers) StateGood closed f status c w (fresh e given) h.assigns h.located (record { environment = k; copies = tt })

  -- Steps

  abbrev pub StartsGood : List Start → Type 0
  StartsGood xs = StartsHold (EnvironmentGood numbers) (AllWorkGood numbers) xs

  -- a step that leaves all good, and splits nothing unless it meets a parameter that is not set
  pub record EffectGood (x : Effect) : Type 0 where
    pub environment : EnvironmentGood numbers x.environment
    pub next : NextHolds (EnvironmentGood numbers) (AllWorkGood numbers) x.next
    pub starts : StartsGood x.starts
    pub quiet : x.unset ≡ false → x.split ≡ false

  pub goes_good : (e : Environment) (f : Frame) (status : ℕ) (ws : List Work) → EnvironmentGood numbers e → AllWorkGood numbers ws → EffectGood (goes e f status ws)
  unfolding NextHolds StartsHold
  goes_good e f status ws h k = record { environment = h; next = k; starts = tt; quiet = λ u. refl }

  pub ends_good : (e : Environment) (f : Frame) → EnvironmentGood numbers e → EffectGood (ends e f)
  unfolding NextHolds StartsHold
  ends_good e f h = record { environment = h; next = tt; starts = tt; quiet = λ u. refl }

  behind_copies : (cs : List Copy) (xs : List Start) → CopiesGood cs → StartsGood xs → StartsGood (of_copies cs ++ xs)
  unfolding CopiesGood StartsHold StartHolds AllWorkGood WorkGood ItemsGood
  behind_copies [] xs h k = k
  behind_copies (c ∷ cs) xs h k = ((h.0.0, (h.0.1, tt)), behind_copies cs xs h.1 k)

  pub expanded_good : (s : State) (split : Bool) (x : Effect) → StateGood s → (s.unset ≡ false → split ≡ false) → EffectGood x → EffectGood (after_expansion s split x)
  expanded_good s split x h q k = record { environment = k.environment; next = k.next; starts = behind_copies s.copies x.starts h.copies k.starts; quiet = q }

  pub either_good : (b : Bool) (x y : Effect) → (b ≡ true → EffectGood x) → (b ≡ false → EffectGood y) → EffectGood (if b then x else y)
  either_good b x y h k = cond_both b x y EffectGood h k

  pub unless_good : (e : Environment) (f : Frame) (status : ℕ) (ws : List Work) (a : Answer) (s : State) (x : Effect) → EnvironmentGood numbers s.environment
      → (s.ended ≡ false → EffectGood x) → EffectGood (unless_ended e f status ws a s x)
  unfolding unless_ended
  unless_good e f status ws a s x h k = either_good s.ended (ends s.environment f) x (λ b. ends_good s.environment f h) k
