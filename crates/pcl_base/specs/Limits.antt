-- The limits of a job and of its pages.
use Rattle.std.specs.Prelude.{ℕ}

-- bytes of an input
abbrev pub input_limit : ℕ
input_limit = 2147483647

-- commands that a job performs
abbrev pub command_limit : ℕ
command_limit = 100000000

-- pages that a job ejects
abbrev pub page_limit : ℕ
page_limit = 256

-- bytes of a row
abbrev pub row_limit : ℕ
row_limit = 600

-- copies of a page
abbrev pub copies_limit : ℕ
copies_limit = 99

-- the ID of a font or of a macro
abbrev pub id_limit : ℕ
id_limit = 32767

-- bytes of row data
abbrev pub data_limit : ℕ
data_limit = 65535

-- positions on the cursor stack
abbrev pub stack_limit : ℕ
stack_limit = 20

-- macros that run one inside another
abbrev pub macro_limit : ℕ
macro_limit = 3
