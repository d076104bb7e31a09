use Rattle.std.proofs.Common.{◌≡◌, ◌∙◌, ap, sym, subst, IsTrue, Some, List, ℕ, rules, codes, Option}
use Rattle.pcl_program.proofs.Words.{second_word}
use Rattle.pcl_program.proofs.running.ask_for_batch.Goals as goal

pub returns-in-len2-up : goal.returns-in-len2-up
returns-in-len2-up g c =
    let found = second_word g.S.AsStr.text c.args.words.now c.word-item.result c.in-len2-up.len_at_least c.word-item.is in
    let same = found ∙ ap (λ (word : List ℕ). Some word) (sym c.as_str.ensures) in
    subst (λ (word : Option (List ℕ)). (IsTrue c.eq.result → word ≡ Some (codes "batch"))
    × (word ≡ Some (codes "batch") → IsTrue c.eq.result)) (sym same) (search rules)
