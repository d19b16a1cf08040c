use Rattle.std.proofs.Common.{◌≡◌, true, false, refl, sym, ◌∙◌, ap}
use Rattle.std.specs.Prelude.{codes}
use Rattle.std.specs.Str.{bytes_eq}
use Rattle.sh_domain.specs.Knowledge.{contains}
use Rattle.sh_domain.specs.NumberSets.{numbers_of}
use Rattle.sh_domain.proofs.KnowledgeLemmas.{either_with, either_without, row_left}
use Rattle.sh_domain.proofs.MeetLemmas.{known_same}
use Rattle.sh_domain.proofs.knowledge.Assured.pass_either.Goals.{then-is_getopts, else-is_getopts}
use Rattle.sh_domain.proofs.knowledge.Assured.pass_either.Goals as goal

pub returns : goal.returns
returns c h =
    let names = c.args.names.now in
    let rows = c.args.rows.now in
    let drops = c.args.drops.now in
    let old = c.args.self.now in
    let mid = c.remove_row.new.self in
    let function = c.args.function.now in
    known_same _ _ _ _ _ _
    (λ t.
    let kept = row_left names h rows drops.vars (numbers_of old.vars) (numbers_of mid) c.remove_row.ensures t in
    elim c.if-is_getopts.branch [
      | then-is_getopts w ↦
          let is : bytes_eq function (codes "getopts") ≡ true = sym c.is_getopts.ensures ∙ w.if-is_getopts.true in
          either_with function t (contains names mid t) _ _ is (ap (λ s. contains names s t) w.vars-is ∙ w.remove_name.ensures t) kept
      | else-is_getopts w ↦
          let is : bytes_eq function (codes "getopts") ≡ false = sym c.is_getopts.ensures ∙ w.if-is_getopts.false in
          either_without function t (contains names mid t) _ _ is (ap (λ s. contains names s t) w.vars-is) kept
    ])
    (λ t. row_left names h rows drops.functions (numbers_of old.functions) (numbers_of c.remove_row-2.new.self) c.remove_row-2.ensures t)
    refl
