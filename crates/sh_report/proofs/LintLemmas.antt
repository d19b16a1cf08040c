-- From the greatest certificate of a script to what is answered of it.
use Rattle.std.proofs.Common.{◌≡◌, ℕ, suc, ◌+◌, ◌^◌, ◌<◌, ◌≤◌, Bool, true, false, List, [], ◌∷◌, ◌++◌, map, length, Result, Ok, Err, IfOk, Vec, Global, refl, sym, ◌∙◌, ap, subst, arith}
use Rattle.std.proofs.Common.{leb-true}
use Rattle.std.proofs.lemmas.List.{length-map}
use Rattle.std.proofs.lemmas.Result.{IfOk-weaker}
use Rattle.std.specs.List.{list_all}
use Rattle.std.specs.declared.alloc.AllocError.{AllocError}
use Rattle.sh_tree.specs.declared.limits.TheConstants.{MAX_NESTING}
use Rattle.sh_tree.specs.declared.refusal.Refusal.{Refusal}
use Rattle.sh_tree.specs.declared.refusal.Refusal.TheVariants.{Memory, CertSyntax}
use Rattle.sh_tree.specs.standard.language.Bytes.{is_name}
use Rattle.sh_tree.specs.standard.program.Syntax.{Text}
use Rattle.sh_tree.specs.standard.program.Trees.{script_of}
use Rattle.sh_domain.specs.declared.certificate.Certificate.{Certificate}
use Rattle.sh_domain.specs.declared.certificate.Entry.{Entry}
use Rattle.sh_domain.specs.declared.compact.Compact.{Compact}
use Rattle.sh_domain.specs.declared.knowledge.Knowledge.{Knowledge}
use Rattle.sh_domain.specs.Certificates.{commands_from, function_claims, in_byte_order, sheet_of}
use Rattle.sh_domain.specs.Compacts.{CompactSheet, compact_claims, compact_of_sheet, compact_text, known_claim}
use Rattle.sh_domain.specs.Demands.{demands}
use Rattle.sh_domain.specs.Facts.{Declared, start_facts}
use Rattle.sh_domain.specs.Forms.{is_variable}
use Rattle.sh_domain.specs.Knowledge.{AreNumbered, among, knowledge_facts}
use Rattle.sh_domain.specs.Names.{are_distinct, first_names}
use Rattle.sh_domain.specs.Sheets.{Sheet, certificate_text}
use Rattle.sh_domain.specs.Spelling.{is_writable}
use Rattle.sh_domain.specs.declared.limits.TheConstants.{MAX_CERTIFICATE}
use Rattle.sh_domain.proofs.CompactLemmas.{compacts_state}
use Rattle.sh_domain.proofs.EachLemmas.{none_both}
use Rattle.sh_domain.proofs.KnownNameLemmas.{names_suffice}
use Rattle.sh_domain.proofs.VariableLemmas.{read_names_variables}
use Rattle.sh_quote.specs.Places.{unquoted}
use Rattle.sh_answers.specs.declared.verdict.Verdict.{Verdict}
use Rattle.sh_answers.specs.declared.verdict.Verdict.TheVariants.{Pass, Fail, Forged}
use Rattle.sh_domain.specs.Admitted.{claims_in}
use Rattle.sh_accept.specs.Answers.{Certifies, IsBest, IsStart, IsTextOf, Lints, places}
use Rattle.sh_accept.proofs.DistinctLemmas.{distinct_fold}
use Rattle.sh_domain.specs.Admitted.{IsGreatest}
use Rattle.sh_judged.specs.Prepared.{IsPrepared, StatesGreatest, sheet_in}
use Rattle.sh_judged.specs.Told.{TellsPlaces}
use Rattle.sh_judged.specs.declared.prepared.Prepared.{Prepared}

module _ (b : List ℕ) (d : Declared) (p : Prepared) (i : IsPrepared b d p) where
  best : (c : Sheet) → IsGreatest b d p.tree p.names c → IsBest b d p.tree c
  best c g = record { names = p.names; admitted = i.admitted; greatest = g }

  told : (c : Sheet) → IsGreatest b d p.tree p.names c → (v : Verdict) → TellsPlaces b (places b d p.tree c) v → Lints b d (Ok v)
  told c g Pass h =
      let none = none_both (demands (start_facts d) (claims_in b p.tree c) (script_of b p.tree)) (unquoted (script_of b p.tree)) h in
      (c, record { tree = p.tree; names = p.names; admitted = i.admitted; fit = g.fit; rules = g.rules; met = none.0; quoted = none.1 })
  told c g (Fail r) h = record { tree = p.tree; certificate = c; best = best c g; found = h }
  told c g (Forged n f) h = absurd h

  -- the verdict on the greatest certificate
  pub judged_greatest : {E : Type 0} (c : Certificate) (r : Result Verdict E) → IsGreatest b d p.tree p.names (sheet_in p c)
      → IfOk r (λ v. (declared : Declared) → TellsPlaces b (places b declared p.tree (sheet_in p c)) v) → IfOk r (λ v. Lints b d (Ok v))
  judged_greatest c r g h = IfOk-weaker r _ (λ v. Lints b d (Ok v)) (λ v k. told (sheet_in p c) g v (k d)) h

  -- its text, and that of what states its compact form
  pub full_spelled : (c : Certificate) (text : Text) → text ≡ certificate_text (sheet_in p c) → IsTextOf true d (sheet_in p c) text
  unfolding IsTextOf
  full_spelled c text e = e

  pub compact_spelled : (k : Compact) (s : StatesGreatest b d p k) (text : Text) → text ≡ compact_text (compact_claims (in_byte_order p.names) k) → IsTextOf false d s.certificate text
  unfolding IsTextOf
  compact_spelled k s text e = (s.start, s.known, e ∙ ap compact_text s.states)

  -- the text is not too long, or it is
  pub shown : (full : Bool) (c : Sheet) (v : Vec ℕ Global) → IsGreatest b d p.tree p.names c → IsTextOf full d c v.items → length v.items ≤ MAX_CERTIFICATE → Certifies full b d (Ok v)
  shown full c v g s l = (record { tree = p.tree; certificate = c; best = best c g; spelled = s }, l)

  pub too_long : (full : Bool) (c : Sheet) (text : Text) → IsGreatest b d p.tree p.names c → IsTextOf full d c text → MAX_CERTIFICATE < length text → Certifies full b d (Err (CertSyntax 0))
  too_long full c text g s l = (text, record { tree = p.tree; certificate = c; best = best c g; spelled = s }, l, refl)

  -- out of memory
  pub exhausted : (e : Refusal) → e ≡ Memory → Lints b d (Err e)
  exhausted e h = subst (λ x. Lints b d (Err x)) (sym h) i.admitted.reading.0

  pub uncertified : (full : Bool) (e : Refusal) → e ≡ Memory → Certifies full b d (Err e)
  uncertified full e h = subst (λ x. Certifies full b d (Err x)) (sym h) i.admitted.reading.0

  -- what is known at the start, as a certificate has it
  module _ (named : list_all is_name d.names ≡ true) (few : d.args ≤ 65535) (w : Knowledge) (known : knowledge_facts p.names w ≡ among p.names (start_facts d)) where
    is_start : IsStart d (known_claim (in_byte_order p.names) w)
    unfolding are_distinct
    is_start =
        let names = i.admitted.numbered in
        let numbered : AreNumbered p.names = names_suffice.numbered b p.tree d p.names names.0 names.1 in
        let distinct : are_distinct p.names ≡ true =
        subst (λ ns. are_distinct ns ≡ true) (sym names.0.each_once) (distinct_fold [] (first_names ++ d.names ++ map (λ x. x.name) names.0.seen) refl) in
        let variables : list_all is_variable p.names ≡ true =
        read_names_variables b p.tree d p.names (MAX_NESTING, i.admitted.reading.1.0, i.admitted.reading.1.1) named names in
        record {
          known = compacts_state.start p.names w numbered ∙ known ∙ names_suffice.start b p.tree d p.names names.0;
          written = ap is_writable (compacts_state.started p.names w d numbered known) ∙ compacts_state.written p.names d distinct variables few;
        }

    pub states : (c : Certificate) (r : Result Compact AllocError) → IsGreatest b d p.tree p.names (sheet_in p c)
        → IfOk r (λ k. (names : List Text) → length names ≡ c.rows.count → compact_claims (in_byte_order names) k ≡ compact_of_sheet (known_claim (in_byte_order names) w) (sheet_of (in_byte_order names) c))
        → c.rows.count ≡ length p.names → IfOk r (StatesGreatest b d p)
    states c (Ok k) g h sized = record {
      certificate = sheet_in p c;
      greatest = g;
      start = known_claim (in_byte_order p.names) w;
      known = is_start;
      states = h p.names (sym sized);
    }
    states c (Err e) g h sized = tt

-- a sheet of a text has few commands and functions

commands_long : (order : List (ℕ × Text)) (c : Certificate) (k : ℕ) (es : List Entry) → length (commands_from order c k es) ≡ length es
unfolding commands_from
commands_long order c k [] = refl
commands_long order c k (e ∷ es) = ap suc (commands_long order c (k + 1) es)

pub few_commands : (b : List ℕ) (d : Declared) (p : Prepared) (c : Certificate) → IsGreatest b d p.tree p.names (sheet_in p c) → length c.entries.items < 2 ^ 32
few_commands b d p c g =
    let few : length (commands_from (in_byte_order p.names) c 1 c.entries.items) ≤ 65535 = leb-true _ _ g.spelled.few_commands in
    let same = commands_long (in_byte_order p.names) c 1 c.entries.items in
    omega (arith, few, same)

pub few_functions : (b : List ℕ) (d : Declared) (p : Prepared) (c : Certificate) → IsGreatest b d p.tree p.names (sheet_in p c) → length c.functions.items < 2 ^ 32
few_functions b d p c g =
    let few : length (sheet_in p c).functions ≤ 65535 = leb-true _ _ g.spelled.few_functions in
    let same : length (sheet_in p c).functions ≡ length c.functions.items = length-map c.functions.items (function_claims (in_byte_order p.names) c.rows) in
    omega (arith, few, same)

pub few_stated : (b : List ℕ) (d : Declared) (p : Prepared) (k : Compact) → StatesGreatest b d p k → length k.functions.items < 2 ^ 32
few_stated b d p k s =
    let few : length s.certificate.functions ≤ 65535 = leb-true _ _ s.greatest.spelled.few_functions in
    let same : length (compact_claims (in_byte_order p.names) k).functions ≡ length s.certificate.functions = ap (λ (x : CompactSheet). length x.functions) s.states in
    let own : length (compact_claims (in_byte_order p.names) k).functions ≡ length k.functions.items = length-map k.functions.items (function_claims (in_byte_order p.names) k.rows) in
    omega (arith, few, same, own)
