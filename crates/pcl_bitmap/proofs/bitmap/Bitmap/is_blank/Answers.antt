use Rattle.pcl_bitmap.proofs.Names.{page_width}
use Rattle.pcl_bitmap.proofs.Pages.{zeros_from_white, white_from_zeros}
use Rattle.pcl_bitmap.proofs.bitmap.Bitmap.is_blank.Goals as goal

pub returns-clause-dots : goal.returns-clause-dots
returns-clause-dots c =
    let row = c.row.result.now in (
      λ blank x _. rw (← c.row.ensures.bytes) (white_from_zeros row (c.is_zero.ensures.0 blank) x),
      λ white. c.is_zero.ensures.1
          (zeros_from_white row (page_width c.args.self.now.size c.args.self.now.dpi) c.row.ensures.in_bytes c.row.ensures.clear_pads
          (λ x within. rw c.row.ensures.bytes (white x within))),
    )
