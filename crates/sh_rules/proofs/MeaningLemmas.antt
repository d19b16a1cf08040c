-- What is known of numbered names represents what is seen.
use Rattle.std.proofs.Common.{◌≡◌, min, Bool, true, false, not, ◌&&◌, ◌||◌, Option, Some, None, option_map, unwrap_or, List, [], ◌∷◌, ◌++◌, map, filter, fold, refl, sym, ap, ◌∙◌, append_assoc, arith}
use Rattle.std.specs.Str.{bytes_eq}
use Rattle.std.proofs.lemmas.Slice.Eq.{bytes_eq-Decides}
use Rattle.std.proofs.lemmas.List.{append-nil}
use Rattle.std.proofs.lemmas.Map.Views.{any-filter_same}
use Rattle.sh_tree.specs.standard.program.Syntax.{Text}
use Rattle.sh_runs.specs.standard.runs.Environment.{is_one_of}
use Rattle.sh_domain.specs.declared.certificate.Entry.{Entry}
use Rattle.sh_domain.specs.declared.certificate.Facts as value
use Rattle.sh_domain.specs.declared.certificate.Facts.TheVariants as value_kind
use Rattle.sh_domain.specs.declared.certificate.FunctionEntry.{FunctionEntry}
use Rattle.sh_domain.specs.declared.rows.RowId.{RowId}
use Rattle.sh_domain.specs.Certificates.{claim_of, in_byte_order, names_at}
use Rattle.sh_domain.specs.Entries.{script_entered}
use Rattle.sh_domain.specs.Facts.{Facts, NotReached, Known, Claim, Unreached, facts, meet}
use Rattle.sh_domain.specs.Gains.{Gains, job, with_gains}
use Rattle.sh_domain.specs.KeptRows.{holds_at}
use Rattle.sh_domain.specs.Knowledge.{AreNumbered, among}
use Rattle.sh_domain.specs.Meets.{is_call}
use Rattle.sh_domain.specs.Operands.{Names}
use Rattle.sh_domain.specs.Order.{seen_facts}
use Rattle.sh_domain.specs.Views.{Certificate, Slot, Before, AfterZero, AfterNonzero, Head, Entry as Entered', ReturnsZero, ReturnsNonzero, Seen, Gain, Lose, step, steps, where_known, source_facts, at, at_start, gaining}
use Rattle.sh_domain.specs.Views as views
use Rattle.sh_domain.proofs.KnowledgeLemmas.{in_row, numbered_only}
use Rattle.sh_domain.proofs.MeetLemmas.{known_same, seen_is_meet}
use Rattle.sh_gains.specs.Knowing as knowing
use Rattle.sh_rules.specs.Settings.{Setting, certificate, known_at, gained, without_job}
use Rattle.sh_rules.specs.Meaning.{sees, knows, met_of, with_met, WalkEnters}
use Rattle.sh_rules.specs.Walks.{head_of}
use Rattle.sh_rules.proofs.SlotLemmas.{entries, head_claimed}
use Rattle.sh_rules.proofs.EnteredLemmas.{Interprets, script_same}

-- Meets and steps of facts about some names

split : (n v w : Bool) → (n && (v && w)) ≡ ((n && v) && (n && w))
split true v w = refl
split false v w = refl

spread : (n g v : Bool) → (n && (g || v)) ≡ ((n && g) || (n && v))
spread true g v = refl
spread false g v = refl

grouped : (n v k : Bool) → (n && (v && k)) ≡ ((n && v) && k)
grouped true v k = refl
grouped false v k = refl

and_twice : (b : Bool) → (b && b) ≡ b
and_twice true = refl
and_twice false = refl

meet_twice : (f : Facts) → meet f f ≡ f
unfolding meet
meet_twice NotReached = refl
meet_twice (Known v f a) = known_same _ _ _ _ (min a a) a (λ t. and_twice (v t)) (λ t. and_twice (f t)) (omega arith)

pub meet_last : (f : Facts) → meet f NotReached ≡ f
unfolding meet
meet_last NotReached = refl
meet_last (Known v f a) = refl

among_meet : (ns : List Text) (f g : Facts) → among ns (meet f g) ≡ meet (among ns f) (among ns g)
unfolding among meet
among_meet ns NotReached g = refl
among_meet ns (Known v f a) NotReached = refl
among_meet ns (Known v f a) (Known w g n) =
    known_same _ _ _ _ (min a n) (min a n) (λ t. split (is_one_of ns t) (v t) (w t)) (λ t. split (is_one_of ns t) (f t) (g t)) refl

told : (ns xs : List Text) (t : Text) → is_one_of (filter (is_one_of ns) xs) t ≡ (is_one_of ns t && is_one_of xs t)
told ns xs t = any-filter_same (λ n. bytes_eq n t) (is_one_of ns) (is_one_of ns t) (λ k e. ap (is_one_of ns) ((bytes_eq-Decides k t).0 e)) xs

pub among_gained : (ns : List Text) (g : Gains) (f : Facts) → among ns (with_gains g f) ≡ with_gains (knowing.among ns g) (among ns f)
unfolding among with_gains
among_gained ns g NotReached = refl
among_gained ns g (Known v f a) =
    known_same _ _ _ _ _ _
    (λ t. spread (is_one_of ns t) (is_one_of g.names t) (v t) ∙ ap (λ b. b || (is_one_of ns t && v t)) (sym (told ns g.names t)))
    (λ t. refl) refl

pub among_lost : (ns : List Text) (c : Certificate) (names : Names) (f : Facts) → among ns (step c (Lose names) f) ≡ step c (Lose names) (among ns f)
unfolding among step where_known
among_lost ns c names NotReached = refl
among_lost ns c names (Known v f a) =
    known_same _ _ _ _ a a
    (λ t. grouped (is_one_of ns t) (v t) (not (is_one_of names.vars t)))
    (λ t. grouped (is_one_of ns t) (f t) (not (is_one_of names.functions t))) refl

-- What a certificate sees, step by step

pub start_sees : (names : List Text) (d : Facts) (c : Certificate) → among names d ≡ sees names d c at_start
unfolding seen_facts steps source_facts
start_sees names d c = ap (among names) (sym (meet_last d))

module _ (x : Setting) (d : Facts) (c : Certificate) where
  pub gain_seen : (g : Gains) (s : Seen) → sees x.names d c (gaining g s) ≡ gained x g (sees x.names d c s)
  unfolding gained step is_call
  gain_seen g s = ap (among x.names) (seen_is_meet.behind d c (Gain g) s refl) ∙ among_gained x.names g (seen_facts d c s)

  pub job_seen : (s : Seen) → sees x.names d c (views.without_job s) ≡ without_job x (sees x.names d c s)
  unfolding without_job step is_call
  job_seen s =
      let lost : Names = record { vars = job ∷ []; functions = [] } in
      ap (among x.names) (seen_is_meet.behind d c (Lose lost) s refl) ∙ among_lost x.names c lost (seen_facts d c s)

  pub joined_seen : (s t : Seen) → sees x.names d c (s ++ t) ≡ meet (sees x.names d c s) (sees x.names d c t)
  joined_seen s t = ap (among x.names) (seen_is_meet.joined d c s t) ∙ among_meet x.names (seen_facts d c s) (seen_facts d c t)

  pub nothing_seen : sees x.names d c [] ≡ NotReached
  unfolding seen_facts among
  nothing_seen = refl

-- What a certificate claims is about numbered names

module _ (x : Setting) (h : AreNumbered x.names) where
  abbrev claim : value.Facts → Claim
  claim f = claim_of (in_byte_order x.names) x.kept.rows f

  row_named : (id : RowId) (t : Text)
      → (is_one_of x.names t && is_one_of (names_at (in_byte_order x.names) x.kept.rows id) t) ≡ is_one_of (names_at (in_byte_order x.names) x.kept.rows id) t
  row_named id t =
      let e = in_row x.names h x.kept.rows id t in
      ap (λ b. is_one_of x.names t && b) e ∙ sym (numbered_only x.names (λ k. holds_at x.kept.rows.rows id.index k) t) ∙ sym e

  claim_named : (f : value.Facts) → among x.names (facts (claim f)) ≡ facts (claim f)
  unfolding among facts claim_of
  claim_named value_kind.NotReached = refl
  claim_named (value_kind.Known v f a) = known_same _ _ _ _ a a (row_named v) (row_named f) refl

  option_named : {E : Type 0} (part : E → value.Facts) (o : Option E)
      → among x.names (facts (unwrap_or (option_map (λ e. claim (part e)) o) Unreached)) ≡ facts (unwrap_or (option_map (λ e. claim (part e)) o) Unreached)
  unfolding among facts
  option_named part None = refl
  option_named part (Some e) = claim_named (part e)

  by_option : {E : Type 0} (part : E → value.Facts) (o : Option E) (f : Facts) → f ≡ facts (unwrap_or (option_map (λ e. claim (part e)) o) Unreached) → among x.names f ≡ f
  by_option part o f e = ap (among x.names) e ∙ option_named part o ∙ sym e

  pub slot_named : (s : Slot) → among x.names (known_at x s) ≡ known_at x s
  unfolding known_at
  slot_named (Before n) = by_option (λ (e : Entry). e.before) _ _ (ap facts ((entries x).before n))
  slot_named (AfterZero n) = by_option (λ (e : Entry). e.zero) _ _ (ap facts ((entries x).zero n))
  slot_named (AfterNonzero n) = by_option (λ (e : Entry). e.nonzero) _ _ (ap facts ((entries x).nonzero n))
  slot_named (Head n) = by_option (λ (f : value.Facts). f) (head_of x.kept n) _ (head_claimed x n)
  slot_named (Entered' f) = by_option (λ (e : FunctionEntry). e.before) _ _ (ap facts ((entries x).entered f))
  slot_named (ReturnsZero f) = by_option (λ (e : FunctionEntry). e.zero) _ _ (ap facts ((entries x).returns_zero f))
  slot_named (ReturnsNonzero f) = by_option (λ (e : FunctionEntry). e.nonzero) _ _ (ap facts ((entries x).returns_nonzero f))

  module _ (d : Facts) where
    slot_seen : (s : Slot) → knows x d (at s) ≡ known_at x s
    unfolding knows seen_facts steps source_facts known_at
    slot_seen s = ap (among x.names) (meet_last (facts ((certificate x).claim s))) ∙ slot_named s

    pub start_seen : among x.names d ≡ knows x d at_start
    unfolding knows
    start_seen = start_sees x.names d (certificate x)

    pub interprets : Interprets x (knows x d)
    unfolding knows
    interprets = record {
      slot = slot_seen;
      gain = gain_seen x d (certificate x);
      job = job_seen x d (certificate x);
      joined = joined_seen x d (certificate x);
      nothing = nothing_seen x d (certificate x);
      twice = λ s. meet_twice (knows x d s);
    }

listed : {A B : Type 0} (f : A → B) (ms : List B) (es : List A) → fold (λ ns m. ns ++ m ∷ []) ms (map f es) ≡ ms ++ map f es
listed f ms [] = sym (append-nil ms)
listed f ms (e ∷ es) = listed f (ms ++ f e ∷ []) es ∙ append_assoc ms (f e ∷ []) (map f es)

pub walk_enters : WalkEnters
walk_enters x d t h = script_same x (knows x d) (interprets x h d) with_met _ [] t (start_seen x h d) ∙ listed (met_of x d) [] (script_entered t)
