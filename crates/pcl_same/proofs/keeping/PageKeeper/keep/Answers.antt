use Rattle.std.proofs.Common.{◌≡◌, Some, true}
use Rattle.std.specs.Result.{is_ok}
use Rattle.pcl_same.proofs.keeping.PageKeeper.keep.Goals as goal

pub returns-then-is_ok : goal.returns-then-is_ok
returns-then-is_ok c =
    let had : c.args.self.now.pages ≡ Some c.in-Some.pages = cc (c.in-Some.is, c.take.ensures.value) in
    let pushed : is_ok c.push.result ≡ true = cc (c.is_ok.ensures.value, c.if-is_ok.true) in
    rw had (c.in-Ok.kept, rw pushed at c.push.ensures.items, c.in-Ok.ensures)
