use Rattle.std.proofs.Common.{◌≡◌, ◌∙◌, Bor, map, rules}
use Rattle.std.specs.List.{flat_map}
use Rattle.sh_tree.specs.declared.tree.Word.{Word}
use Rattle.sh_domain.specs.SightWalks.{listed_word}
use Rattle.sh_domain.proofs.SightLemmas.{words_listed}
use Rattle.sh_domain.proofs.sights.words_of.Goals as goal

pub returns : goal.returns
returns c =
    let all : map (λ (w : Bor Word). w.now) c.add_words_of.new.words.items ≡ flat_map listed_word c.args.elements.now = search rules in
    all ∙ words_listed c.args.elements.now
