-- What a command that is entered gives to the work that it becomes.
use Rattle.std.proofs.Common.{◌≡◌, ℕ, Bool, true, false, if◌then◌else◌, List, [], ◌∷◌, ◌++◌, refl, subst}
use Rattle.std.proofs.lemmas.Bool.{and_parts}
use Rattle.sh_tree.specs.standard.language.Bytes.{is_name}
use Rattle.sh_tree.specs.standard.program.Syntax as p
use Rattle.sh_tree.specs.standard.program.Syntax.{Text}
use Rattle.sh_runs.specs.standard.runs.Environment.{Environment, Frame, is_one_of}
use Rattle.sh_runs.specs.standard.runs.Answers.{Answer}
use Rattle.sh_runs.specs.standard.runs.Steps.{opened, command_work, compound, is_started_first, in_process, redirected_before, act_on}
use Rattle.sh_runs.specs.standard.runs.Expansion.{in_one, expand}
use Rattle.sh_runs.specs.standard.runs.States.{fresh}
use Rattle.sh_runs.specs.standard.runs.Work.{Work, Compound, Copies, Effect, goes}
use Rattle.sh_domain.specs.declared.rule.FlowRule.TheVariants.{F7, F8, F9, F10, F11, F13}
use Rattle.sh_domain.specs.Demands.{kind_unmet, clauses_unmet, for_words_unmet}
use Rattle.sh_domain.specs.Entries as entries
use Rattle.sh_domain.specs.Entries.{Around, alone, in_loop, items_after, behind_list}
use Rattle.sh_domain.specs.Facts.{Facts}
use Rattle.sh_domain.specs.Gains.{Gains, no_gains, with_gains, word_gains, redirect_gains, redirects_gains}
use Rattle.sh_domain.specs.Needs.{word_unmet, words_unmet, patterns_unmet, redirect_unmet, redirects_unmet}
use Rattle.sh_domain.specs.Views.{Certificate, Before, Head, Seen, After, Both, in_any_case, after_command, at, gaining, without_job}
use Rattle.sh_sound.specs.Holding.{Stands, Holds, OneHolds, Entails}
use Rattle.sh_domain.specs.Inclusions as i
use Rattle.sh_domain.specs.Inclusions.{word_formed, field_formed, fields_formed, words_formed, redirect_formed, redirects_formed, for_words_formed, clauses_formed, kind_formed, KindRules}
use Rattle.sh_sound.specs.Going.{around, front, Bodies, WordAt, WordsAt, PatternsAt, RedirectsAt, ForWordsAt, PatternsOf, KindAt, CompoundAt, FrontGood, Good, GoodIn, Stays, ProcessOk, StartOk, StepOk}
use Rattle.sh_sound.proofs.HoldLemmas.{each_left, each_right, has_nothing, holds_with, covers_at, gain_holds, holds_gain, has_gain, any_holds, both_holds, leaves_lead}
use Rattle.sh_sound.proofs.ExpansionLemmas.{none_both}
use Rattle.sh_sound.proofs.ListLemmas.{began_alone, good_weaker, turned, leads_same}
use Rattle.sh_sound.proofs.CompoundLemmas.{lose_job, starts_ok, begun_ok, redirected_ok}

module _ (d : Facts) (c : Certificate) (defined : List Text) where
  -- where b is seen, this is seen and these facts are known
  pub record Known (b seen : Seen) (x : Facts) : Type 0 where
    pub entails : Entails d c b seen
    pub knows : (e : Environment) (f : Frame) → OneHolds d c b e f → Holds x e f

  pub known_gain : (g : Gains) (b seen : Seen) (x : Facts) → Known b seen x → Known (gaining g b) (gaining g seen) (with_gains g x)
  known_gain g b seen x k = record {
    entails = λ e f h. gain_holds d c g seen e f (has_gain d c g b e f h) (k.entails e f (holds_gain d c g b e f h));
    knows = λ e f h. holds_with g x e f (has_gain d c g b e f h) (k.knows e f (holds_gain d c g b e f h));
  }

  pub word_at : (b seen : Seen) (x : Facts) (w : p.Word) → Known b seen x → i.Each (Stands d c defined) (entries.word_entered seen w) → word_unmet x w ≡ [] → word_formed w ≡ true → WordAt d c defined b w
  word_at b seen x w k r m formed = record { seen = seen; facts = x; entails = k.entails; knows = k.knows; rules = r; met = m; formed = formed }

  words_at : (b seen : Seen) (x : Facts) (ws : p.Words) → Known b seen x → i.Each (Stands d c defined) (entries.words_entered seen ws) → words_unmet x ws ≡ [] → fields_formed ws ≡ true → WordsAt d c defined b ws
  unfolding WordsAt words_unmet fields_formed entries.words_entered
  words_at b seen x p.no_words k r m formed = tt
  words_at b seen x (p.more_words w ws) k r m formed =
      let met = none_both (word_unmet x w) (words_unmet (with_gains (word_gains w) x) ws) m in
      let both = and_parts (field_formed w) (fields_formed ws) formed in (
        word_at b seen x w k (each_left (Stands d c defined) (entries.word_entered seen w) _ r) met.0 (and_parts (word_formed w) _ both.0).0,
        words_at (gaining (word_gains w) b) (gaining (word_gains w) seen) (with_gains (word_gains w) x) ws (known_gain (word_gains w) b seen x k)
            (each_right (Stands d c defined) (entries.word_entered seen w) _ r) met.1 both.1,
      )

  patterns_at : (b seen : Seen) (x : Facts) (ws : p.Words) → Known b seen x → i.Each (Stands d c defined) (entries.patterns_entered seen ws) → patterns_unmet x ws ≡ [] → words_formed ws ≡ true → PatternsAt d c defined b ws
  unfolding PatternsAt patterns_unmet words_formed entries.patterns_entered
  patterns_at b seen x p.no_words k r m formed = tt
  patterns_at b seen x (p.more_words w ws) k r m formed =
      let met = none_both (word_unmet x w) (patterns_unmet x ws) m in
      let both = and_parts (word_formed w) (words_formed ws) formed in (
        word_at b seen x w k (each_left (Stands d c defined) (entries.word_entered seen w) _ r) met.0 both.0,
        patterns_at b seen x ws k (each_right (Stands d c defined) (entries.word_entered seen w) _ r) met.1 both.1,
      )

  pub redirect_at : (b seen : Seen) (x : Facts) (r : p.Redirect) → Known b seen x → i.Each (Stands d c defined) (entries.redirect_entered seen r) → redirect_unmet x r ≡ [] → redirect_formed r ≡ true → WordAt d c defined b (opened r)
  unfolding opened redirect_unmet redirect_formed entries.redirect_entered
  redirect_at b seen x (p.File w) k r m formed = word_at b seen x w k r m formed
  redirect_at b seen x (p.Here w) k r m formed = word_at b seen x w k r m formed

  pub redirects_at : (b seen : Seen) (x : Facts) (rs : p.Redirects) → Known b seen x → i.Each (Stands d c defined) (entries.redirects_entered seen rs) → redirects_unmet x rs ≡ [] → redirects_formed rs ≡ true → RedirectsAt d c defined b rs
  unfolding RedirectsAt redirects_unmet redirects_formed entries.redirects_entered
  redirects_at b seen x p.no_redirects k r m formed = tt
  redirects_at b seen x (p.more_redirects q rs) k r m formed =
      let met = none_both (redirect_unmet x q) (redirects_unmet (with_gains (redirect_gains q) x) rs) m in
      let both = and_parts (redirect_formed q) (redirects_formed rs) formed in (
        redirect_at b seen x q k (each_left (Stands d c defined) (entries.redirect_entered seen q) _ r) met.0 both.0,
        redirects_at (gaining (redirect_gains q) b) (gaining (redirect_gains q) seen) (with_gains (redirect_gains q) x) rs (known_gain (redirect_gains q) b seen x k)
            (each_right (Stands d c defined) (entries.redirect_entered seen q) _ r) met.1 both.1,
      )

  for_words_at : (b : Seen) (x : Facts) (ws : p.ForWords) → Known b b x → i.Each (Stands d c defined) (entries.for_words_entered b ws) → for_words_unmet x ws ≡ [] → for_words_formed ws ≡ true → ForWordsAt d c defined b ws
  unfolding ForWordsAt for_words_unmet for_words_formed entries.for_words_entered
  for_words_at b x p.every_parameter k r m formed = tt
  for_words_at b x (p.listed ws) k r m formed = words_at b b x ws k r m formed

  patterns_of : (y : Around) (b fallen : Seen) (x : Facts) (cs : p.Clauses) → Known b b x → i.Each (Stands d c defined) (entries.clauses_entered y b fallen cs) → clauses_unmet x cs ≡ [] → clauses_formed cs ≡ true
      → PatternsOf d c defined b cs
  unfolding PatternsOf clauses_unmet clauses_formed entries.clauses_entered
  patterns_of y b fallen x p.no_clauses k r m formed = tt
  patterns_of y b fallen x (p.more_clauses ps body end rest) k r m formed =
      let met = none_both (patterns_unmet x ps) (clauses_unmet x rest) m in
      let both = and_parts (words_formed ps) (clauses_formed rest) formed in
      let patterns = entries.patterns_entered b ps in
      let list = entries.items_entered F9 y (Both (b ++ fallen)) body in
      let two = each_left (Stands d c defined) (patterns ++ list) _ r in (
        patterns_at b b x ps k (each_left (Stands d c defined) patterns list two) met.0 both.0,
        patterns_of y b (entries.falls end (items_after (Both (b ++ fallen)) body)) x rest k (each_right (Stands d c defined) (patterns ++ list) _ r) met.1 both.1,
      )

  unfoldable pub is_compound : p.Kind → Bool
  is_compound (p.Simple es) = false
  is_compound _ = true

  pub work_compound : (n offset : ℕ) (kind : p.Kind) (rs : p.Redirects) → is_compound kind ≡ true → command_work (p.command n offset kind rs) ≡ Compound n rs kind
  unfolding is_compound command_work
  work_compound n offset (p.Simple es) rs h = cc
  work_compound n offset kind rs h = refl

  module _ (SimpleAt : Around → Work → Seen → Type 0) where
    pub kind_at : (base : Around) (callers : List Facts) (ws : List Work) (n : ℕ) (kind : p.Kind) (rs : p.Redirects) (s : Seen) (y : Facts) → is_compound kind ≡ true → Known s s y
        → KindRules d c defined (around base ws) n s kind → i.Each (Stands d c defined) (entries.kind_entered (around base ws) n s kind) → kind_unmet y kind ≡ [] → kind_formed kind rs ≡ true
        → ((name : Text) (body : p.Command) → kind ≡ p.Define name body → is_one_of defined name ≡ true)
        → Good d c defined SimpleAt base callers ws (after_command n) → KindAt d c defined (around base ws) n kind s (λ r. Good d c defined SimpleAt base callers ws r)
    unfolding is_compound KindRules entries.kind_entered kind_unmet kind_formed KindAt
    kind_at base callers ws n (p.Simple es) rs s y is k rules entered met formed listed goes = cc
    kind_at base callers ws n (p.Group list) rs s y is k rules entered met formed listed goes =
        ((F10, entered), good_weaker d c defined SimpleAt base callers ws (items_after (Both s) list) (after_command n) (leaves_lead d c n (items_after (Both s) list) rules) goes)
    kind_at base callers ws n (p.Subshell list) rs s y is k rules entered met formed listed goes = ((F11, entered), rules)
    kind_at base callers ws n (p.Conditional branches otherwise) rs s y is k rules entered met formed listed goes =
        let all = entries.branches_entered (around base ws) s branches in
        record { inside = each_left (Stands d c defined) all _ entered; last = each_right (Stands d c defined) all _ entered; leave = rules.0; leaves = rules.1 }
    kind_at base callers ws n (p.Loop kind condition body) rs s y is k rules entered met formed listed goes =
        let all = entries.items_entered F7 (in_loop n (around base ws)) (Both (at (Head n))) condition in (
          covers_at d c (Head n) s rules.0,
          record { first = (F7, each_left (Stands d c defined) all _ entered); turn = (F7, each_right (Stands d c defined) all _ entered); rules = rules.1 },
        )
    kind_at base callers ws n (p.For name words body) rs s y is k rules entered met formed listed goes =
        let all = entries.for_words_entered s words in
        let both = and_parts (is_name name) (for_words_formed words) formed in (
          for_words_at s y words k (each_left (Stands d c defined) all _ entered) met both.1,
          covers_at d c (Head n) (behind_list words s) rules.0,
          record { named = both.0; turn = (F8, each_right (Stands d c defined) all _ entered); rules = rules.1 },
        )
    kind_at base callers ws n (p.Case w cs) rs s y is k rules entered met formed listed goes =
        let all = entries.word_entered s w in
        let both = and_parts (word_formed w) (clauses_formed cs) formed in
        let two = none_both (word_unmet y w) (clauses_unmet (with_gains (word_gains w) y) cs) met in
        let rest = each_right (Stands d c defined) all _ entered in (
          word_at s s y w k (each_left (Stands d c defined) all _ entered) two.0 both.0,
          record { entered = rest; leave = rules.0; patterns = patterns_of (around base ws) (gaining (word_gains w) s) [] (with_gains (word_gains w) y) cs (known_gain (word_gains w) s s y k) rest two.1 both.1 },
          rules.1,
        )
    kind_at base callers ws n (p.Define name body) rs s y is k rules entered met formed listed goes =
        (rules.0, record { named = formed; listed = listed name body refl; entered = (F13, entered); rules = rules.1 })

    abbrev Well : Around → Environment → List Frame → ℕ → List Work → Type 0
    Well base e fs status ws = ProcessOk d c defined SimpleAt base e fs status ws

    abbrev Ok : Around → Environment → List Frame → ℕ → Effect → Type 0
    Ok base e fs status x = StepOk d c defined SimpleAt base e fs status x

    -- where its redirections are done a compound command begins, and otherwise the next one is
    module _ (base : Around) (e : Environment) (fs : List Frame) (status : ℕ) (ws : List Work) (a : Answer) where
      -- a subshell expands its redirections in its process, which then does its list
      process_starts : (n : ℕ) (rs : p.Redirects) (list : p.Items) (s : Seen) (K : After → Type 0) → Bodies d c defined e.functions → CompoundAt d c defined (around base ws) n rs (p.Subshell list) s K
          → OneHolds d c s e (front fs) → Well alone e (front fs ∷ []) status (Compound n rs (p.Group list) ∷ [])
      unfolding KindAt GoodIn Good FrontGood Stays front around in_any_case
      process_starts n rs list s K bodies needs h = record {
        known = Both s;
        callers = [];
        good = record {
          after = Both s;
          leads = leads_same d c defined SimpleAt (Both s);
          goes = (
            record {
              redirects = needs.redirects;
              failed = needs.failed;
              first = needs.first;
              behind = without_job (at (Before n));
              through = λ e' f' k. lose_job d c defined (at (Before n)) e' f' (needs.first e' f' (holds_gain d c (redirects_gains rs) s e' f' k));
              needs = (needs.needs.0, began_alone);
            },
            began_alone,
          );
        };
        holds = both_holds d c status s e (front fs) h;
        stays = (front fs, refl);
        bodies = bodies;
      }

      pub compound_ok : (n : ℕ) (rs : p.Redirects) (kind : p.Kind) → Well base e fs status (Compound n rs kind ∷ ws) → Ok base e fs status (act_on e (front fs) status ws a (Compound n rs kind))
      unfolding act_on compound GoodIn Good FrontGood redirects_gains is_started_first in_process KindAt i.Each StartOk
      compound_ok n p.no_redirects kind live =
          let q = live.good.after in
          let s = in_any_case q in
          let known = any_holds d c status q e (front fs) (live.good.leads status e (front fs) live.holds) in
          let needs = live.good.goes.0 in
          begun_ok d c defined SimpleAt base e fs status ws a n kind needs.behind _ live needs.needs
          (needs.through e (front fs) (gain_holds d c no_gains s e (front fs) (has_nothing e (front fs)) known)) (needs.first e (front fs) known) live.good.goes.1
      compound_ok n (p.more_redirects r rest) kind live = by_kind kind refl
        where
          q : After
          q = live.good.after

          s : Seen
          s = in_any_case q

          known : OneHolds d c s e (front fs)
          known = any_holds d c status q e (front fs) (live.good.leads status e (front fs) live.holds)

          next : Ok base e fs status (redirected_before e (front fs) status ws a (expand (front fs) status in_one (opened r) (fresh e a.given)).state (Compound n rest kind ∷ ws))
          next = redirected_ok d c defined SimpleAt base e fs status ws a n r rest kind s (Compound n (p.more_redirects r rest) kind ∷ ws) live live.good.goes.0 known live.good.goes.1

          by_kind : (k : p.Kind) → kind ≡ k → Ok base e fs status (if is_started_first e (front fs) status ws a k
              then record (goes e (front fs) a.status ws) { starts = Copies e (Compound n (p.more_redirects r rest) (in_process e (front fs) status ws a k) ∷ []) ∷ [] }
              else redirected_before e (front fs) status ws a (expand (front fs) status in_one (opened r) (fresh e a.given)).state (Compound n rest kind ∷ ws))
          by_kind (p.Subshell list) same = go a.redirections_in_process
            where
              go : (b : Bool) → Ok base e fs status (if b
                  then record (goes e (front fs) a.status ws) { starts = Copies e (Compound n (p.more_redirects r rest) (p.Group list) ∷ []) ∷ [] }
                  else redirected_before e (front fs) status ws a (expand (front fs) status in_one (opened r) (fresh e a.given)).state (Compound n rest kind ∷ ws))
              go true =
                  let needs = subst (λ k. CompoundAt d c defined (around base ws) n (p.more_redirects r rest) k s (λ r. Good d c defined SimpleAt base live.callers ws r)) same live.good.goes.0 in
                  starts_ok d c defined SimpleAt base e fs status a.status ws _
                  (turned d c defined SimpleAt base e fs status a.status (Compound n (p.more_redirects r rest) kind ∷ ws) ws live (after_command n) live.good.goes.1
                  (leaves_lead d c n (Both (at (Before n))) needs.needs.1 a.status e (front fs) (both_holds d c a.status (at (Before n)) e (front fs) (needs.first e (front fs) known))))
                  ((alone, process_starts n (p.more_redirects r rest) list s (λ r. Good d c defined SimpleAt base live.callers ws r) live.bodies needs known), tt)
              go false = next
          by_kind k same = next
