-- What the certificate says of the return of a function, by the entry that is there.
use Rattle.std.proofs.Common.{◌≡◌, Some, None, option_map, unwrap_or, ap, ◌∙◌}
use Rattle.sh_tree.specs.standard.program.Syntax.{Text}
use Rattle.sh_domain.specs.declared.certificate.FunctionEntry.{FunctionEntry}
use Rattle.sh_domain.specs.declared.knowledge.Return.{Return}
use Rattle.sh_domain.specs.Certificates.{claim_of, drops_of, in_byte_order}
use Rattle.sh_domain.specs.Facts.{Unreached}
use Rattle.sh_domain.specs.Operands.{no_names}
use Rattle.sh_domain.specs.Slots.{entry_of}
use Rattle.sh_domain.specs.Views.{ReturnsZero, ReturnsNonzero}
use Rattle.sh_rules.specs.Calls.{IsReturn, IsUnknown}
use Rattle.sh_rules.specs.Settings.{Setting}
use Rattle.sh_rules.proofs.SlotLemmas.{entries}

abbrev from_zero : FunctionEntry → Return
from_zero e = record { drops = e.drops; facts = e.zero }

abbrev from_nonzero : FunctionEntry → Return
from_nonzero e = record { drops = e.drops; facts = e.nonzero }

pub zero_there : (x : Setting) (f : Text) (e : FunctionEntry) → entry_of x.kept x.functions f ≡ Some e → IsReturn x f (ReturnsZero f) (from_zero e)
zero_there x f e s = record {
  drops = (entries x).drops f ∙ ap (λ o. unwrap_or (option_map (λ (d : FunctionEntry). drops_of (in_byte_order x.names) x.kept.rows d.drops) o) no_names) s;
  claim = (entries x).returns_zero f ∙ ap (λ o. unwrap_or (option_map (λ (d : FunctionEntry). claim_of (in_byte_order x.names) x.kept.rows d.zero) o) Unreached) s;
}

pub zero_away : (x : Setting) (f : Text) → entry_of x.kept x.functions f ≡ None → IsUnknown x f (ReturnsZero f)
zero_away x f s = record {
  drops = (entries x).drops f ∙ ap (λ o. unwrap_or (option_map (λ (d : FunctionEntry). drops_of (in_byte_order x.names) x.kept.rows d.drops) o) no_names) s;
  claim = (entries x).returns_zero f ∙ ap (λ o. unwrap_or (option_map (λ (d : FunctionEntry). claim_of (in_byte_order x.names) x.kept.rows d.zero) o) Unreached) s;
}

pub ruleset zero = (zero_there, zero_away)

pub nonzero_there : (x : Setting) (f : Text) (e : FunctionEntry) → entry_of x.kept x.functions f ≡ Some e → IsReturn x f (ReturnsNonzero f) (from_nonzero e)
nonzero_there x f e s = record {
  drops = (entries x).drops f ∙ ap (λ o. unwrap_or (option_map (λ (d : FunctionEntry). drops_of (in_byte_order x.names) x.kept.rows d.drops) o) no_names) s;
  claim = (entries x).returns_nonzero f ∙ ap (λ o. unwrap_or (option_map (λ (d : FunctionEntry). claim_of (in_byte_order x.names) x.kept.rows d.nonzero) o) Unreached) s;
}

pub nonzero_away : (x : Setting) (f : Text) → entry_of x.kept x.functions f ≡ None → IsUnknown x f (ReturnsNonzero f)
nonzero_away x f s = record {
  drops = (entries x).drops f ∙ ap (λ o. unwrap_or (option_map (λ (d : FunctionEntry). drops_of (in_byte_order x.names) x.kept.rows d.drops) o) no_names) s;
  claim = (entries x).returns_nonzero f ∙ ap (λ o. unwrap_or (option_map (λ (d : FunctionEntry). claim_of (in_byte_order x.names) x.kept.rows d.nonzero) o) Unreached) s;
}

pub ruleset nonzero = (nonzero_there, nonzero_away)
