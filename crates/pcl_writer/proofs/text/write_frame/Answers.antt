use Rattle.pcl_writer.proofs.text.write_frame.Goals as goal

pub returns : goal.returns
returns c = c.extend_from_slice.ensures.items
