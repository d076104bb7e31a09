-- What proofs of this crate name of std, of the crates below, and of its own definitions; those above take these from here too.
pub use Rattle.std.proofs.lemmas.Nat.{field_of, mod-pow-add, one_shl}
pub use Rattle.std.proofs.lemmas.List.{append_cancel_left}
pub use Rattle.std.proofs.lemmas.Slice.Eq.{strip_prefix_is}
pub use Rattle.std.proofs.lemmas.Bool.Decides.{Decides-eqb}
pub use Rattle.std.specs.Int.Count.{ones_step}
pub use Rattle.pcl_base.proofs.Names.{Appends, Appends-kept, Appends-trans, Keeps-refl, SomeIff, ap, append-nil, div_below, drop_of_length-le, err_from_is_err_and, mul-le, nat_tests, ok_or, refl, same_from_all_zip, shr-shr, slice_get, slice_index, sub-one, sym, take-nil, zero-div}
pub use Rattle.std.specs.Io.KnownBytes.{Keeps}
pub use Rattle.pcl_base.specs.declared.{dpi.Dpi.Dpi, fault.JobFault.JobFault, refusal.Refusal.Refusal, profile.Profile.Profile, profile.Profile.TheVariants.Stated, size.Size.Size}
pub use Rattle.pcl_base.proofs.{PageBounds.height_small}
pub use Rattle.pcl_bitmap.proofs.Names.{IsPicture, Picture, bit_of_byte, dot_of_row, page_height, page_row_bytes, page_width, row_of}
pub use Rattle.pcl_bitmap.specs.declared.{page.Page.Page}
pub use Rattle.pcl_page.proofs.{Jobs.accepted_pages, Jobs.has_pages}
pub use Rattle.pcl_page.proofs.Names.{AllShow, Hands, HasPagesBy, IsPerformed, IsRefusalBy, Sheet, Shows, pages_of, performance}
pub use Rattle.pcl_page.specs.{Delivering.DeliversBy}
pub use Rattle.pcl_preview.specs.{Greymap.pixel, Greymap.squares_for, Image.IsImageWritten, Image.header_of, Image.image_of, PageImages.AreImagesIn, PageImages.ArePageImages, PageImages.AreThere, PageImages.IsPagesPreview, PageImages.LacksPage, PageImages.SaysIfImages, PageImages.chosen, PageImages.images_in, PageImages.last_listed, PageImages.those_listed, Preview.HasPage, Preview.IsPageDots, Preview.IsPreview, StreamedImages.IsPagesStreamed, StreamedImages.WritesFront}
pub use Rattle.pcl_streams.specs.{Transfer.AppendsFront, Transfer.IsWritten}
pub use Rattle.pcl_streams.specs.declared.{fault.Fault.Fault, fault.Fault.TheVariants.Memory, fault.Fault.TheVariants.NoSuchPage, fault.Fault.TheVariants.Refused, fault.Fault.TheVariants.WriteFault}
pub use Rattle.pcl_preview.specs.declared.{form.ImageForm.ImageForm, form.ImageForm.TheVariants.Bitmap, form.ImageForm.TheVariants.Greymap, form.Scale.Scale, page_images.PageChoice.PageChoice, page_images.PageChoice.TheVariants.All, page_images.PageChoice.TheVariants.Listed, page_preview.Chosen.Chosen}
pub use Rattle.pcl_preview.specs.inner.{Choice.chosen_after, Comparing.IsLeftAfter, Comparing.TakesImageOff, Comparing.left_bytes, Showing.IsMet, Showing.IsMetBy, Showing.Showing, Showing.flags_of, Showing.is_all, Showing.later, Showing.left_among, Showing.next_image, Showing.shown_after, Streaming.AreImagesWritten, Streaming.ArePagesFound, Streaming.HasChosenPages, Streaming.IsWrittenUnless, Streaming.Streaming, Streaming.StreamsNext}
