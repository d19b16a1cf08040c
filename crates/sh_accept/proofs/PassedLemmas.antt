-- The text of the greatest certificate reads as it, and its compact text as what is filled to it.
-- So if it is accepted these texts pass, and otherwise they have its findings.
use Rattle.std.proofs.Common.{◌≡◌, ◌≤◌, ℕ, nat_le, nat_eq, Bool, true, false, ◌&&◌, List, length, Ok, Vec, refl, sym, ◌∙◌, subst, arith, true≢false}
use Rattle.std.specs.declared.alloc.Global.{Global}
use Rattle.std.proofs.lemmas.Bool.{and_parts}
use Rattle.std.proofs.lemmas.Bool.Decides.{nat_tests}
use Rattle.sh_tree.specs.declared.tree.Script.{Script}
use Rattle.sh_tree.specs.standard.program.Syntax.{Text}
use Rattle.sh_tree.specs.standard.program.Trees.{script_of}
use Rattle.sh_runs.specs.standard.runs.Environment.{is_one_of}
use Rattle.sh_domain.specs.Admitted.{IsAdmitted, IsGreatest, claims_in, functions_in}
use Rattle.sh_domain.specs.CompactForms.{Full, Compact}
use Rattle.sh_domain.specs.CompactReading.{given_fits}
use Rattle.sh_domain.specs.Compacts.{CompactSheet, compact_of_sheet, compact_text, stated_by}
use Rattle.sh_domain.specs.Facts.{Known, Claim, Unreached, Claimed, Atom, Nowhere, Variable, Function, Parameters, claims, facts, within, Declared, start_facts}
use Rattle.sh_domain.specs.Filled.{IsFilled, FillsTo}
use Rattle.sh_domain.specs.Knowledge.{among}
use Rattle.sh_domain.specs.Order.{IsWithin}
use Rattle.sh_domain.specs.Reading.{are_known, claim_fits, commands_fit, functions_fit}
use Rattle.sh_domain.specs.Sheets.{Sheet, certificate_text}
use Rattle.sh_domain.specs.declared.limits.TheConstants.{MAX_CERTIFICATE}
use Rattle.sh_domain.proofs.CompactRoundTripLemmas.{compact_given, compact_short, full_given}
use Rattle.sh_domain.proofs.CompactSpellingLemmas.{compact_read_back}
use Rattle.sh_domain.proofs.FilledLemmas.{keeps_compact, keeps_whole}
use Rattle.sh_domain.proofs.KnownNameLemmas.{names_suffice}
use Rattle.sh_domain.proofs.OrderLemmas.{within_test}
use Rattle.sh_domain.proofs.ReadBackLemmas.{read_back}
use Rattle.sh_domain.proofs.WritableLemmas.{short}
use Rattle.sh_answers.specs.Findings.{AreFindings}
use Rattle.sh_answers.specs.declared.verdict.Finding.{Finding}
use Rattle.sh_answers.specs.declared.verdict.Report.{Report}
use Rattle.sh_answers.specs.declared.verdict.Verdict.TheVariants.{Pass, Fail}
use Rattle.sh_accept.specs.Accepted.{FitsGiven, Gives, Claims, IsAccepted, IsAcceptedText}
use Rattle.sh_accept.specs.Answers.{HasFindings, IsBest, IsCertified, IsStart, IsTextOf, Lints, Certifies, places}
use Rattle.sh_accept.specs.Computed.{IsRead}
use Rattle.sh_accept.specs.Passed.{LintedIsChecked}
use Rattle.sh_accept.specs.Shown.{ShownIsGreatest}
use Rattle.sh_accept.proofs.CompactLemmas.{and_all, compact_written, turns_fitting}
use Rattle.sh_accept.proofs.FilledLemmas.{one_certified, tree_is}
use Rattle.sh_accept.proofs.GreatestLemmas.{accepted, meets}
use Rattle.sh_accept.proofs.JoinLemmas.{greatest_filled}
use Rattle.sh_accept.proofs.OneGreatestLemmas.{as_many}
use Rattle.sh_accept.proofs.SingleLemmas.{best_read, one}

-- The start

-- what is known at the start is of names of the script
start_named : (b : List ℕ) (d : Declared) (t : Script) (names : List Text) → IsAdmitted b d t names → IsWithin (start_facts d) (Known (is_one_of names) (is_one_of names) d.args)
unfolding start_facts among claims
start_named b d t names a = record { claimed = go }
  where
    go : (x : Atom) → claims (start_facts d) x ≡ true → claims (Known (is_one_of names) (is_one_of names) d.args) x ≡ true
    go Nowhere h = absurd (true≢false (sym h))
    go (Variable x) h = (and_parts (is_one_of names x) _ (subst (λ f. claims f (Variable x) ≡ true) (sym (names_suffice.start b t d names a.numbered.0)) h)).0
    go (Function x) h = absurd (true≢false (sym h))
    go (Parameters n) h = h

start_fits : (b : List ℕ) (d : Declared) (t : Script) (names : List Text) (w : Claim) → IsAdmitted b d t names → facts w ≡ start_facts d → claim_fits names w ≡ true
unfolding claim_fits within
start_fits b d t names Unreached a e = refl
start_fits b d t names (Claimed vs fs n) a e =
    let all : (are_known names vs && are_known names fs && nat_le n d.args) ≡ true =
    (within_test (Claimed vs fs n) (Known (is_one_of names) (is_one_of names) d.args)).1 (subst (λ f. IsWithin f (Known (is_one_of names) (is_one_of names) d.args)) (sym e) (start_named b d t names a)) in
    (and_parts (are_known names vs && are_known names fs) (nat_le n d.args) all).0

-- The texts

module _ (b : List ℕ) (d : Declared) (t : Script) (c : Sheet) (k : IsBest b d t c) where
  full_claims : length (certificate_text c) ≤ MAX_CERTIFICATE → Claims b t k.names (certificate_text c) c
  unfolding Gives given_fits
  full_claims l = record {
    given = Full c;
    reads = full_given (certificate_text c) c (short (certificate_text c) l ∙ read_back c k.greatest.spelled);
    fit = record { loops = k.greatest.fit.loops; are_loops = k.greatest.fit.are_loops; fit = k.greatest.fit.fit };
    gives = refl;
  }

  module _ (w : Claim) (start : IsStart d w) where
    abbrev compact : CompactSheet
    compact = compact_of_sheet w c

    compact_fit : FitsGiven b t k.names (Compact compact)
    unfolding given_fits
    compact_fit =
        let f = k.greatest.fit in
        let both = and_parts (commands_fit k.names f.loops c.commands) (functions_fit k.names (length (functions_in b t)) c.functions) f.fit in
        let long = as_many k.names f.loops c.commands both.0 in
        let count : nat_eq (length c.commands) (length f.loops) ≡ true = grind (arith, nat_tests) in
        record {
          loops = f.loops;
          are_loops = f.are_loops;
          fit = and_all _ _ (and_all _ _ (and_all _ _ count (start_fits b d t k.names w k.admitted start.known)) (turns_fitting k.names 1 f.loops c.commands both.0)) both.1;
        }

    compact_filled : FillsTo b t k.names compact c
    compact_filled =
        let g = greatest_filled b d t k.names c k.admitted k.greatest in
        subst (λ f. IsFilled b t k.names f (stated_by (functions_in b t) compact) c) (sym start.known)
        (record {
          fit = g.fit;
          keeps = keeps_compact (functions_in b t) w c (start_facts d) (script_of b t) (claims_in b t c) g.keeps;
          above = λ other fit keeps. g.above other fit (keeps_whole (functions_in b t) w c (start_facts d) (script_of b t) (claims_in b t other) keeps);
          spelled = g.spelled;
        })

    compact_claims : length (compact_text compact) ≤ MAX_CERTIFICATE → Claims b t k.names (compact_text compact) c
    unfolding Gives
    compact_claims l = record {
      given = Compact compact;
      reads = compact_given (compact_text compact) compact (compact_short (compact_text compact) l ∙ compact_read_back compact (compact_written w c start.written k.greatest.spelled));
      fit = compact_fit;
      gives = compact_filled;
    }

  text_claims : (full : Bool) (text : Text) → IsTextOf full d c text → length text ≤ MAX_CERTIFICATE → Claims b t k.names text c
  unfolding IsTextOf
  text_claims true text is l = subst (λ x. length x ≤ MAX_CERTIFICATE → Claims b t k.names x c) (sym is) full_claims l
  text_claims false text is l = subst (λ x. length x ≤ MAX_CERTIFICATE → Claims b t k.names x c) (sym is.2) (compact_claims is.0 is.1) l

  pub certified : (full : Bool) (text : Text) → IsTextOf full d c text → length text ≤ MAX_CERTIFICATE → IsCertified b d text t c
  certified full text is l = record { names = k.names; admitted = k.admitted; claims = text_claims full text is l }

best : (full : Bool) (b : List ℕ) (d : Declared) (t : Script) (c : Sheet) (text : Text) → IsBest b d t c → IsAccepted b d c → IsTextOf full d c text → length text ≤ MAX_CERTIFICATE
    → IsAcceptedText b d text
best full b d t c text k a is l =
    let m = meets b d t c c k a in
    record {
      certificate = c;
      accepted = record { tree = t; names = k.names; admitted = k.admitted; fit = k.greatest.fit; rules = k.greatest.rules; met = m.0; quoted = m.1 };
      claims = text_claims b d t c k full text is l;
    }

shown : (full : Bool) (b : List ℕ) (d : Declared) (v : Vec ℕ Global) → Lints b d (Ok Pass) → Certifies full b d (Ok v) → IsAcceptedText b d v.items
shown full b d v h k = best full b d k.0.tree k.0.certificate v.items k.0.best (accepted b d k.0.tree k.0.certificate h.0 k.0.best h.1) k.0.spelled k.1

-- along the one tree, and the one greatest certificate of it
found_there : (b : List ℕ) (d : Declared) (t u : Script) (c e : Sheet) (fs : List Finding) → u ≡ t → e ≡ c → AreFindings b (places b d u e) fs → AreFindings b (places b d t c) fs
found_there b d t u c e fs p same h = subst (λ x. AreFindings b (places b d t x) fs) same (subst (λ v. AreFindings b (places b d v e) fs) p h)

-- a script of which there is a greatest certificate is read
is_read : (b : List ℕ) (d : Declared) (t : Script) (c : Sheet) (h : IsBest b d t c) → IsRead b d t h.names h.greatest.fit.loops
is_read b d t c h = record { reading = h.admitted.reading; numbering = h.admitted.numbered.0; are_loops = h.greatest.fit.are_loops }

failed : (full : Bool) (b : List ℕ) (d : Declared) (v : Vec ℕ Global) (r : Report) → Lints b d (Ok (Fail r)) → Certifies full b d (Ok v) → HasFindings b d v.items r.findings.items
failed full b d v r h k =
    let t = k.0.tree in
    let c = k.0.certificate in
    let best = k.0.best in
    let names = best.names in
    let loops = best.greatest.fit.loops in
    let read = is_read b d t c best in
    let tree : h.tree ≡ t = tree_is b d t names loops read h.tree h.best.admitted.reading in
    let same : h.certificate ≡ c = one b d t names loops read h.certificate c (best_read b d t names loops read h.tree h.certificate h.best) best in
    record {
      tree = t;
      certificate = c;
      certified = certified b d t c best full v.items k.0.spelled k.1;
      rules = best.greatest.rules;
      found = found_there b d t h.tree c h.certificate r.findings.items tree same h.found;
    }

-- The shown text claims the greatest certificate alone

filled : (b : List ℕ) (d : Declared) (t : Script) (names : List Text) (c : Sheet) (start : Claim)
    → IsAdmitted b d t names → IsGreatest b d t names c → IsStart d start → FillsTo b t names (compact_of_sheet start c) c
filled b d t names c start a g s = compact_filled b d t c (record { names = names; admitted = a; greatest = g }) start s

only : (full : Bool) (b : List ℕ) (d : Declared) (v : Vec ℕ Global) (t : Script) (c : Sheet) → Certifies full b d (Ok v) → IsCertified b d v.items t c → IsBest b d t c
only full b d v t c h k =
    let u = h.0.tree in
    let e = h.0.certificate in
    let best = h.0.best in
    let read = is_read b d u e best in
    let names = best.names in
    let loops = best.greatest.fit.loops in
    let tree : t ≡ u = tree_is b d u names loops read t k.admitted.reading in
    let same : c ≡ e =
    one_certified b d u names loops read v.items c e (subst (λ x. IsCertified b d v.items x c) tree k) (certified b d u e best full v.items h.0.spelled h.1) in
    subst (λ x. IsBest b d t x) (sym same) (subst (λ x. IsBest b d x e) (sym tree) best)

pub shown_is_greatest : ShownIsGreatest
shown_is_greatest = record {
  filled = filled;
  claimed = λ full b d v h. certified b d h.0.tree h.0.certificate h.0.best full v.items h.0.spelled h.1;
  only = only;
}

pub linted_is_checked : LintedIsChecked
linted_is_checked = record { best = best; shown = shown; failed = failed }
