-- What is read of a compact certificate's text may be filled.
use Rattle.std.proofs.Common.{◌≡◌, true, length, sym, subst}
use Rattle.sh_tree.specs.declared.limits.TheConstants.{MAX_NESTING}
use Rattle.sh_domain.specs.Admitted.{functions_in}
use Rattle.sh_domain.specs.Certificates.{in_byte_order}
use Rattle.sh_domain.specs.CompactReading.{compact_fits, given_claims, given_fits}
use Rattle.sh_domain.specs.Compacts.{CompactSheet, compact_claims}
use Rattle.sh_domain.specs.CompactSpelling.{IsCompactSheet}
use Rattle.sh_domain.proofs.CompactRoundTripLemmas.{compact_within, given_compact}
use Rattle.sh_domain.proofs.CompactSpellingLemmas.{compact_is_sheet}
use Rattle.sh_accept.specs.Fillable.{ReadIsFillable}
use Rattle.sh_accept.proofs.LoopLemmas.{one_order}
use Rattle.sh_accept.proofs.StatedLemmas.{stated_fits, stated_written}

pub read_is_fillable : ReadIsFillable
unfolding given_claims given_fits
read_is_fillable b d t names text k a r =
    let s : CompactSheet = compact_claims (in_byte_order names) k in
    let compact : IsCompactSheet s = compact_is_sheet text s (compact_within text s (given_compact text s r.2.claims)) in
    let fit : compact_fits names r.0 (length (functions_in b t)) s ≡ true = r.2.fit in
    record {
      fit = λ loops are.
          let same = one_order b t MAX_NESTING a.reading.1.0 a.reading.1.1 r.0 loops r.1 are in
          stated_fits names loops (length (functions_in b t)) s (subst (λ ls. compact_fits names ls (length (functions_in b t)) s ≡ true) (sym same) fit);
      spelled = stated_written s compact;
      started = compact.start;
    }
