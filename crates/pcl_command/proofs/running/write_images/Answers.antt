use Rattle.pcl_command.proofs.running.write_images.Goals as goal

pub returns-in-Bitmap : goal.returns-in-Bitmap
returns-in-Bitmap g c = rw c.in-Bitmap.is assumption

pub returns-in-Greymap : goal.returns-in-Greymap
returns-in-Greymap g c = rw c.in-Greymap.is assumption
