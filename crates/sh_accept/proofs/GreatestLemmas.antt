-- The greatest certificate meets what any other one meets.
use Rattle.std.proofs.Common.{◌≡◌, ℕ, ◌<◌, List, [], ◌++◌, map, length, Ok, sym, ◌∙◌, ap, subst, arith}
use Rattle.std.proofs.lemmas.List.{length-map}
use Rattle.std.proofs.lemmas.List.Sorted.{length_permutation}
use Rattle.sh_tree.specs.declared.limits.TheConstants.{MAX_NESTING}
use Rattle.sh_tree.specs.declared.place.Place.{Place}
use Rattle.sh_tree.specs.declared.tree.Script.{Script}
use Rattle.sh_tree.specs.standard.program.Syntax.{Text}
use Rattle.sh_tree.specs.standard.program.Trees.{script_of}
use Rattle.sh_domain.specs.Facts.{Declared, start_facts}
use Rattle.sh_domain.specs.Names.{IsNumbering}
use Rattle.sh_domain.specs.Order.{IsBelow}
use Rattle.sh_domain.specs.Sheets.{Sheet}
use Rattle.sh_quote.specs.Places.{unquoted}
use Rattle.sh_answers.specs.Findings.{AreFindings, contents_at}
use Rattle.sh_answers.specs.Verdicts.{contents_of}
use Rattle.sh_answers.specs.declared.verdict.Finding.{Finding}
use Rattle.sh_answers.specs.declared.verdict.Report.{Report}
use Rattle.sh_answers.specs.declared.verdict.Verdict.TheVariants.{Fail}
use Rattle.sh_domain.specs.Admitted.{IsAdmitted, Fits, KeepsRules, claims_in, functions_in}
use Rattle.sh_accept.specs.Accepted.{MeetsDemands, IsQuoted, IsAccepted}
use Rattle.sh_domain.specs.Admitted.{IsGreatest}
use Rattle.sh_accept.specs.Answers.{IsBest, Lints, places}
use Rattle.sh_accept.specs.Greatest.{AreAmong, GreatestIsBest}
use Rattle.sh_accept.proofs.DemandLemmas.{Falls, demands_fall, nothing_left, same, join}
use Rattle.sh_accept.proofs.NumberingLemmas.{same_names, same_fit}

-- what fits by one numbering fits by another
pub renamed : (b : List ℕ) (d : Declared) (t : Script) (ns ms : List Text) (c : Sheet) → IsNumbering b t d ns → IsNumbering b t d ms → Fits b t ns c → Fits b t ms c
renamed b d t ns ms c n m h = record {
  loops = h.loops;
  are_loops = h.are_loops;
  fit = sym (same_fit ns ms (same_names b t d ns ms n m) h.loops (length (functions_in b t)) c) ∙ h.fit;
}

fewest : (b : List ℕ) (d : Declared) (t : Script) (names : List Text) (c other : Sheet)
    → IsGreatest b d t names c → Fits b t names other → KeepsRules b d t other → AreAmong (places b d t c) (places b d t other)
fewest b d t names c other g f k =
    let all : Falls (places b d t other) (places b d t c) = join (demands_fall (start_facts d) (claims_in b t other) (claims_in b t c) (g.above other f k) (script_of b t)) (same (unquoted (script_of b t))) in
    all.kept

-- where another one is accepted, it meets its demands
pub meets : (b : List ℕ) (d : Declared) (t : Script) (c other : Sheet) → IsBest b d t c → IsAccepted b d other → MeetsDemands b d t c × IsQuoted b t
meets b d t c other best a =
    let e : a.tree ≡ t = best.admitted.reading.2 a.tree (MAX_NESTING, a.admitted.reading.1.0, a.admitted.reading.1.1) in
    let own : IsAdmitted b d t a.names = subst (λ u. IsAdmitted b d u a.names) e a.admitted in
    let fit : Fits b t best.names other = renamed b d t a.names best.names other own.numbered.0 best.admitted.numbered.0 (subst (λ u. Fits b u a.names other) e a.fit) in
    let below : IsBelow (claims_in b t other) (claims_in b t c) = best.greatest.above other fit (subst (λ u. KeepsRules b d u other) e a.rules) in
    (nothing_left _ _ (demands_fall (start_facts d) (claims_in b t other) (claims_in b t c) below (script_of b t)) (subst (λ u. MeetsDemands b d u other) e a.met), subst (λ u. IsQuoted b u) e a.quoted)

pub accepted : (b : List ℕ) (d : Declared) (t : Script) (c other : Sheet) → IsBest b d t c → IsAccepted b d other → IsAccepted b d c
accepted b d t c other best a =
    let m = meets b d t c other best a in
    record {
      tree = t;
      names = best.names;
      admitted = best.admitted;
      fit = best.greatest.fit;
      rules = best.greatest.rules;
      met = m.0;
      quoted = m.1;
    }

none_found : (b : List ℕ) (ps : List Place) (fs : List Finding) → ps ≡ [] → AreFindings b ps fs → 0 < length fs → ⊥
none_found b ps fs e f some =
    let as_many : length (map contents_of fs) ≡ length (map (contents_at b) ps) = length_permutation _ _ f.same in
    let own : length (map contents_of fs) ≡ length fs = length-map fs contents_of in
    let empty : length (map (contents_at b) ps) ≡ 0 = ap (λ qs. length (map (contents_at b) qs)) e in
    absurd (omega arith)

pub failed : (b : List ℕ) (d : Declared) (r : Report) (other : Sheet) → Lints b d (Ok (Fail r)) → IsAccepted b d other → ⊥
failed b d r other h a =
    let m = meets b d h.tree h.certificate other h.best a in
    none_found b (places b d h.tree h.certificate) r.findings.items (λ i. m.0 i ++ m.1 i) h.found r.some

pub greatest_is_best : GreatestIsBest
greatest_is_best = record { fewest = fewest; accepted = accepted; failed = failed }
