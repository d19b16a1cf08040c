-- A script with an accepted certificate is safe.
use Rattle.std.proofs.Common.{◌≡◌, ℕ, true, not, None, List, is_some, ap, ◌∙◌}
use Rattle.std.specs.List.{list_all}
use Rattle.sh_tree.specs.declared.limits.TheConstants.{MAX_NESTING}
use Rattle.sh_tree.specs.declared.tree.Script.{Script}
use Rattle.sh_tree.specs.standard.language.Bytes.{is_name}
use Rattle.sh_tree.specs.standard.language.Reading.{Reads, ReadsWithin}
use Rattle.sh_tree.specs.standard.program.Syntax.{Items}
use Rattle.sh_tree.specs.standard.program.Trees.{script_of}
use Rattle.sh_runs.specs.Admitted.{is_admitted}
use Rattle.sh_runs.specs.Profile.{first_refused}
use Rattle.sh_runs.proofs.AdmittedLemmas.{admitted_as_listed}
use Rattle.sh_domain.proofs.GivenLemmas.{read_has_rows}
use Rattle.sh_domain.specs.Facts.{Declared}
use Rattle.sh_domain.specs.Sheets.{Sheet}
use Rattle.sh_sound.proofs.ScriptLemmas.{scripts_have_no_events}
use Rattle.sh_accept.specs.Accepted.{IsAccepted}
use Rattle.sh_domain.specs.Admitted.{claims_in}
use Rattle.sh_accept.specs.Theorem.{IsSafe, Headline}

-- what is read within the limits is read
reads_within : (b : List ℕ) (t : Script) → ReadsWithin b t → Reads b t
reads_within b t h = (MAX_NESTING, h.0, h.1)

-- if no command is refused, the program is admitted
admitted : (t : Items) → first_refused t ≡ None → is_admitted t ≡ true
admitted t h = admitted_as_listed t ∙ ap (λ o. not (is_some o)) h

pub safe : (b : List ℕ) (d : Declared) (c : Sheet) → list_all is_name d.names ≡ true → IsAccepted b d c → IsSafe b d
safe b d c names a =
    let read : Reads b a.tree = reads_within b a.tree a.admitted.reading.1 in
    let program = admitted (script_of b a.tree) a.admitted.profile in
    record {
      tree = a.tree;
      reads = read;
      only = a.admitted.reading.2;
      runs = scripts_have_no_events d (claims_in b a.tree c) b a.tree names read program a.rules a.met a.quoted;
      rows = λ e f start moves w ran n r at. read_has_rows b a.tree read program e f moves w start.functions ran n r at;
    }

pub headline : Headline
headline = record {
  accepted = safe;
  checked = λ b d text names h. safe b d h.certificate names h.accepted;
  linted = λ b d names h. safe b d h.0 names h.1;
}
