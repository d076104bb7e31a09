-- Cited by the models of the crate's types alone: the settings that their fields stand for.
use Rattle.std.specs.Prelude.{List, []}
use Rattle.pcl_base.specs.declared.size.Size.{Size}
use Rattle.pcl_base.specs.declared.size.Size.TheVariants.{Letter}
use Rattle.pcl_env.specs.declared.stack.Position.{Position as Place}
use Rattle.pcl_env.specs.declared.env.Setup.{Setup}
use Rattle.pcl_env.specs.Settings.{Position, Settings}
use Rattle.pcl_env.specs.Stack.{position_of}

abbrev pub settings : Size → Place → List Position → Setup → Settings
settings size cursor stack setup = record {
  profile = setup.profile;
  size = size;
  copies = setup.copies;
  pcl_unit = setup.pcl_unit;
  hmi = setup.hmi;
  vmi = setup.vmi;
  top = setup.top;
  bottom = setup.bottom;
  left = setup.left;
  skips = setup.skips;
  return_feeds = setup.return_feeds;
  feed_returns = setup.feed_returns;
  cursor = position_of cursor;
  stack = stack;
  macro_id = setup.macro_id;
  font_id = setup.font_id;
  character_code = setup.character_code;
  primary = setup.primary;
  secondary = setup.secondary;
  in_use = setup.in_use;
  rectangle_width = setup.rectangle_width;
  rectangle_height = setup.rectangle_height;
  resolution = setup.resolution;
  raster_width = setup.raster_width;
  raster_height = setup.raster_height;
  method = setup.method;
  asked = setup.asked;
}

-- settings without a place: those of a page's upper left corner
abbrev pub without_place : Setup → Settings
without_place setup = settings Letter record { x = 0; y = 0 } [] setup
