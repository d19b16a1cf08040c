-- What is read of a certificate's text, what is refused of it, and what a compact one states.
use Rattle.std.proofs.Common.{◌≡◌, ℕ, List, length, Result, Ok, Err, IfOk, refl, sym, subst}
use Rattle.std.specs.Prelude.{IsOk}
use Rattle.sh_tree.specs.declared.refusal.Refusal.{Refusal}
use Rattle.sh_tree.specs.declared.refusal.Refusal.TheVariants.{Memory}
use Rattle.sh_tree.specs.declared.tree.Script.{Script}
use Rattle.sh_tree.specs.standard.program.Syntax.{Text}
use Rattle.sh_runs.specs.Calls.{Table}
use Rattle.sh_domain.specs.Facts.{Declared}
use Rattle.sh_domain.specs.Certificates.{in_byte_order}
use Rattle.sh_domain.specs.CompactForms.{read_given}
use Rattle.sh_domain.specs.CompactReading.{ReadsGiven, given_claims, given_rows}
use Rattle.sh_domain.specs.Compacts.{compact_claims}
use Rattle.sh_domain.specs.Filled.{FillsTo}
use Rattle.sh_domain.specs.declared.certificate.Certificate.{Certificate}
use Rattle.sh_domain.specs.declared.compact.Compact.{Compact}
use Rattle.sh_domain.specs.declared.compact.Given.{Given}
use Rattle.sh_domain.specs.declared.compact.Given.TheVariants as given
use Rattle.sh_domain.specs.Admitted.{functions_in}
use Rattle.sh_accept.specs.Accepted.{Gives}
use Rattle.sh_accept.specs.Fillable.{IsFillable}
use Rattle.sh_accept.proofs.FillableLemmas.{read_is_fillable}
use Rattle.sh_accept.proofs.PartLemmas.{parts_always_answer}
use Rattle.sh_judged.specs.Prepared.{AnswersText, IsPrepared, IsRead, sheet_in}
use Rattle.sh_judged.specs.declared.prepared.Prepared.{Prepared}

-- a text of which something is read has the form
pub has_form : (text : Text) (t : Script) (functions : ℕ) (names : List Text) (g : Given) → ReadsGiven text t functions names (Ok g) → IsOk (read_given text)
has_form text t functions names g h = rw h.2.claims refl

module _ (b : List ℕ) (d : Declared) (p : Prepared) (i : IsPrepared b d p) where
  -- with the functions of the script
  reads_whole : (text : Text) (r : Result Given Refusal) → ReadsGiven text p.tree (length p.table.functions.names) p.names r → ReadsGiven text p.tree (length (functions_in b p.tree)) p.names r
  reads_whole text r h = subst (λ (x : Table). ReadsGiven text p.tree (length x.functions.names) p.names r) i.table h

  pub unread : (text : Text) (e : Refusal) → ReadsGiven text p.tree (length p.table.functions.names) p.names (Err e) → AnswersText b d text p (Err e)
  unread text e h = (parts_always_answer b d text).uncertified p.tree p.names e i.admitted (reads_whole text (Err e) h)

  -- out of memory
  pub exhausted : (text : Text) (e : Refusal) → e ≡ Memory → AnswersText b d text p (Err e)
  exhausted text e h = subst (λ x. AnswersText b d text p (Err x)) (sym h) i.admitted.reading.0

  pub certifies : (text : Text) (g : Given) (c : Certificate) → ReadsGiven text p.tree (length p.table.functions.names) p.names (Ok g)
      → Gives b p.tree p.names (given_claims p.names g) (sheet_in p c) → AnswersText b d text p (Ok c)
  certifies text g c h gives = (parts_always_answer b d text).certified p.tree p.names g (sheet_in p c) i.admitted (reads_whole text (Ok g) h) gives

  -- what is read of a compact one may be filled
  pub fillable : (k : Compact) → IsRead p (given.Compact k) → IsFillable b p.tree p.names (compact_claims (in_byte_order p.names) k)
  fillable k r = read_is_fillable b d p.tree p.names r.0 k i.admitted (reads_whole r.0 (Ok (given.Compact k)) r.1)

-- What is given, by its version

pub full_sized : (c : Certificate) (n : ℕ) (g : Given) → g ≡ given.Full c → (given_rows g).count ≡ n → c.rows.count ≡ n
unfolding given_rows
full_sized c n g is h = subst (λ x. (given_rows x).count ≡ n) is h

pub compact_sized : (k : Compact) (n : ℕ) (g : Given) → g ≡ given.Compact k → (given_rows g).count ≡ n → k.rows.count ≡ n
unfolding given_rows
compact_sized k n g is h = subst (λ x. (given_rows x).count ≡ n) is h

pub full_gives : (b : List ℕ) (p : Prepared) (c : Certificate) (g : Given) → g ≡ given.Full c → Gives b p.tree p.names (given_claims p.names g) (sheet_in p c)
unfolding given_claims Gives
full_gives b p c g is = subst (λ x. Gives b p.tree p.names (given_claims p.names x) (sheet_in p c)) (sym is) refl

pub compact_gives : {E : Type 0} (b : List ℕ) (p : Prepared) (k : Compact) (g : Given) (r : Result Certificate E) → g ≡ given.Compact k
    → IfOk r (λ c. FillsTo b p.tree p.names (compact_claims (in_byte_order p.names) k) (sheet_in p c)) → IfOk r (λ c. Gives b p.tree p.names (given_claims p.names g) (sheet_in p c))
unfolding given_claims Gives
compact_gives b p k g r is h = subst (λ x. IfOk r (λ c. Gives b p.tree p.names (given_claims p.names x) (sheet_in p c))) (sym is) h
