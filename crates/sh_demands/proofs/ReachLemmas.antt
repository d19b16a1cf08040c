-- The names that are numbered of a script are those that its commands may set.
use Rattle.std.proofs.Common.{◌≡◌, ℕ, Bool, true, false, List, [], ◌∷◌, ◌++◌, map, refl, ap, ◌∙◌}
use Rattle.std.specs.List.{list_all}
use Rattle.std.specs.Prelude.{codes}
use Rattle.std.specs.Str.{bytes_eq}
use Rattle.std.proofs.lemmas.Bool.{or_left, or_right}
use Rattle.std.proofs.lemmas.List.Folds.{list_any-append}
use Rattle.sh_tree.specs.declared.tree.Command.{Command}
use Rattle.sh_tree.specs.declared.tree.Script.{Script}
use Rattle.sh_tree.specs.standard.program.Syntax as p
use Rattle.sh_tree.specs.standard.program.Syntax.{Text}
use Rattle.sh_tree.specs.standard.program.Trees as trees
use Rattle.sh_tree.proofs.ListLemmas.{text_same}
use Rattle.sh_runs.specs.Surroundings.{outside}
use Rattle.sh_runs.specs.standard.runs.Environment.{is_one_of}
use Rattle.sh_runs.specs.standard.runs.Worlds.{start_names}
use Rattle.sh_domain.specs.Facts.{Declared}
use Rattle.sh_domain.specs.Gains.{job}
use Rattle.sh_domain.specs.Names.{IsNumbering, first_names}
use Rattle.sh_domain.specs.Sights.{Sight, in_command}
use Rattle.sh_domain.proofs.EnteredWalk.{script_walked}
use Rattle.sh_demands.specs.Numbered.{NamesReach}
use Rattle.sh_demands.specs.Within.{command_within, redirects_within, kind_within}
use Rattle.sh_demands.proofs.SightLemmas.{command_seen}
use Rattle.sh_domain.proofs.StandLemmas.{all_stand}
use Rattle.sh_gains.proofs.SightLemmas.{all_come, seen_reach}

-- The names of a script

job_first : is_one_of first_names job ≡ true
job_first =
    list_any-append (λ m. bytes_eq m job) start_names (codes "OPTARG" ∷ codes "!" ∷ [])
    ∙ or_right (is_one_of start_names job) _ (or_right (bytes_eq (codes "OPTARG") job) _ (or_left (bytes_eq job job) false (text_same job)))

job_reach : (b : List ℕ) (t : Script) (d : Declared) (names : List Text) → IsNumbering b t d names → is_one_of names job ≡ true
job_reach b t d names n =
    let xs = map (λ (s : Sight). s.name) n.seen in
    ap (λ ns. is_one_of ns job) n.each_once
    ∙ all_come [] (first_names ++ d.names ++ xs) job
    (list_any-append (λ m. bytes_eq m job) (first_names ++ d.names) xs
    ∙ or_left (is_one_of (first_names ++ d.names) job) (is_one_of xs job)
    (list_any-append (λ m. bytes_eq m job) first_names d.names ∙ or_left (is_one_of first_names job) (is_one_of d.names job) job_first))

empty_within : (q : Text → Bool) → command_within q (p.command 0 0 (p.Group p.no_items) p.no_redirects) ≡ true
unfolding command_within redirects_within kind_within
empty_within q = refl

pub names_reach : NamesReach
names_reach = record {
  within = λ b t d names n.
      script_walked (λ x c. command_within (is_one_of names) c) (λ e x c k. k) (trees.script_of b t)
      (all_stand b (λ (c : Command). list_all (λ (s : Sight). is_one_of names s.name) (in_command b c)) (command_within (is_one_of names))
      (command_seen b (is_one_of names) (job_reach b t d names n)) (empty_within (is_one_of names)) outside t (seen_reach b t d names n));
}
