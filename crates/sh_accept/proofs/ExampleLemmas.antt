-- What a check answers to known texts, computed.
use Rattle.std.proofs.Common.{refl}
use Rattle.sh_scan.specs.Places.{place_of}
use Rattle.sh_runs.specs.Calls.{defined, with_name, names_of}
use Rattle.sh_runs.specs.Sites.{form_of, site_of, placed as site_placed, by_number, sites_of}
use Rattle.sh_runs.proofs.ProfileLemmas.{computes as profile}
use Rattle.sh_domain.proofs.AnswerLemmas.{computes as rules}
use Rattle.sh_domain.proofs.TextLemmas.{computes as texts}
use Rattle.sh_domain.specs.Forms.{read_text}
use Rattle.sh_domain.specs.CompactForms.{begins_compact, given_as}
use Rattle.sh_domain.specs.CompactReading.{given_fits}
use Rattle.sh_domain.specs.Reading.{claim_fits, head_fits, commands_fit}
use Rattle.sh_domain.specs.Sheets.{claim_at, function_at}
use Rattle.sh_quote.proofs.QuoteLemmas.{computes as quoting}
use Rattle.sh_accept.specs.Computed.{placed, in_order, filled_to, of_findings, of_fault, of_fit, of_claims, of_count, of_profile}
use Rattle.sh_accept.specs.examples.Answers.{AnswersAsExpected}

-- what the answer to a known text computes
unfoldable computes : Unit {0}
unfolding place_of profile rules texts quoting defined with_name names_of form_of site_of site_placed by_number sites_of read_text begins_compact given_as given_fits filled_to claim_fits head_fits commands_fit claim_at function_at placed in_order of_findings of_fault of_fit of_claims of_count of_profile
computes = tt

pub answers_as_expected : AnswersAsExpected
unfolding computes
answers_as_expected = record {
  passes = refl;
  findings = refl;
  forged = refl;
  malformed = refl;
  misfits = refl;
  refused = refl;
}
