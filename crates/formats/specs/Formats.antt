-- Which format and which limits go with a text buffer of C bytes: document 01, check 2 and "Log and ring".
use Rattle.std.specs.Prelude.{ℕ, ◌≤◌, ◌<◌}
use Rattle.numbers.specs.Numbers.{Width, top}
use Rattle.formats.specs.declared.Format.{Format}

-- numbers of 2 bytes and kinds 1 to 5; texts of 4,096 bytes, records of 32,768, log texts of 65,535. Check 2 refuses every C over 4,096
unfoldable pub format_for : ℕ → Format
format_for C = record { width = 2; offset = 0; text = 4096; records = 32768; texts = 65535 }

-- a log that is lent without its text has the format of the texts that there are
abbrev pub log_format : Format
log_format = format_for 0

-- the most bytes of any text, and of any log's records
abbrev pub text_max : ℕ
text_max = 4096

abbrev pub records_max : ℕ
records_max = 32768

-- what the laws ask of a format
pub record Fit (F : Format) : Type 0 where
  -- numbers of 2 or of 4 bytes, and kinds of a byte
  pub width : Width F.width
  pub offset : F.offset ≤ 16
  -- every place and every length is such a number
  pub places : F.text ≤ F.texts
  pub lengths : F.texts < top F.width
  -- an array of a call's own frame holds a text, and the sizes of a log's records
  pub text : F.text ≤ text_max
  pub records : F.records ≤ records_max
