-- Of utilities that leave what is known after their words, and do not jump.
use Rattle.std.proofs.Common.{◌≡◌, ℕ, true, true≢false, List, refl, sym}
use Rattle.sh_tree.specs.standard.program.Syntax as p
use Rattle.sh_runs.specs.Profile.{Static}
use Rattle.sh_runs.specs.declared.kind.Kind.{Kind}
use Rattle.sh_runs.specs.declared.kind.Kind.TheVariants as kind
use Rattle.sh_domain.specs.declared.rule.FlowRule.TheVariants.{F4}
use Rattle.sh_domain.specs.Entries.{Around}
use Rattle.sh_rules.specs.Asking.{Asking}
use Rattle.sh_rules.specs.Behind.{both}
use Rattle.sh_rules.specs.Bounds.{fault, leaves_told}
use Rattle.sh_rules.specs.Settings.{Setting}
use Rattle.sh_rules.specs.SimpleBounds.{behind}
use Rattle.sh_rules.specs.TextBounds.{utility_by}
use Rattle.sh_rules.specs.TextTells.{is_neutral, jumps_by, told_by}

pub neutral_told : {K : Type 0} (a : Asking K) (x : Setting) (n : ℕ) (y : Around) (es : p.Elements) (k : Kind) (ts : List Static) (kept : K) → is_neutral k ≡ true
    → told_by a x n y es k ts kept ≡ leaves_told a x (fault n F4) (both (behind x n es)) kept
unfolding is_neutral told_by jumps_by utility_by
neutral_told a x n y es kind.Cd ts kept e = refl
neutral_told a x n y es kind.Command ts kept e = refl
neutral_told a x n y es (kind.Refused name) ts kept e = refl
neutral_told a x n y es kind.Utility ts kept e = refl
neutral_told a x n y es _ ts kept e = absurd (true≢false (sym e))
