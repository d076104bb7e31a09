use Rattle.pcl_cert.proofs.Names.{sym, contents}
use Rattle.pcl_cert.proofs.Written.{list_kept}
use Rattle.pcl_cert.proofs.tables.RowTables.copy_table.Goals as goal

pub returns : goal.returns
returns c =
    let list = list_kept (contents c.self.inside.bytes) c.self.inside.starts.items c.args.row c.args.method
    (sym c.self.view_is) c.requires.row c.code.ensures c.index.ensures in
    rw (list, ← c.as_slice.ensures, ← c.numbers_at.ensures.numbers) c.copy_numbers.ensures
