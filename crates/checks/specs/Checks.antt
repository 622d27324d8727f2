-- Document 01, "What a call says": checks run in number order. A call's tests are gathered by the number that they belong to, those of the text
-- that is lent, of the log that is lent and the call's own, and the lowest number whose test is met is the answer.
use Rattle.std.specs.Prelude.{ℕ, zero, suc, ◌+◌, Bool, false, cond, ◌||◌, not, List, ltb, length, take}
use Rattle.formats.specs.declared.Format.{Format}
use Rattle.utf8.specs.Chars.{boundary}
use Rattle.repertoire.specs.Repertoire.{Repertoire}
use Rattle.repertoire.specs.Text.{is_text}
use Rattle.checks.specs.declared.Line.{Line}

pub record Tests : Type 0 where
  -- 2: a size or a used length
  pub sizes : Bool
  -- 3: a number that names nothing
  pub code : Bool
  -- 4: not UTF-8, or outside the repertoire
  pub foreign : Bool
  -- 5: a place beyond the text, a start after its end
  pub place : Bool
  -- 6: a place inside a character
  pub split : Bool
  -- 7: a prompt column over 1,024
  pub prompt : Bool
  -- 8: a log or a ring that breaks its layout
  pub damaged : Bool
  -- a number that the orders add, tried behind 8: k for the number 12 + k, 0 where its condition is not met
  pub later : ℕ

abbrev pub no_tests : Tests
no_tests = record { sizes = false; code = false; foreign = false; place = false; split = false; prompt = false; damaged = false; later = 0 }

-- ---- the tests t with one of them answered by b
abbrev pub with_sizes : Bool → Tests → Tests
with_sizes b t =
    record {
      sizes = b;
      code = t.code;
      foreign = t.foreign;
      place = t.place;
      split = t.split;
      prompt = t.prompt;
      damaged = t.damaged;
      later = t.later;
    }

abbrev pub with_code : Bool → Tests → Tests
with_code b t =
    record {
      sizes = t.sizes;
      code = b;
      foreign = t.foreign;
      place = t.place;
      split = t.split;
      prompt = t.prompt;
      damaged = t.damaged;
      later = t.later;
    }

abbrev pub with_foreign : Bool → Tests → Tests
with_foreign b t =
    record {
      sizes = t.sizes;
      code = t.code;
      foreign = b;
      place = t.place;
      split = t.split;
      prompt = t.prompt;
      damaged = t.damaged;
      later = t.later;
    }

abbrev pub with_place : Bool → Tests → Tests
with_place b t =
    record {
      sizes = t.sizes;
      code = t.code;
      foreign = t.foreign;
      place = b;
      split = t.split;
      prompt = t.prompt;
      damaged = t.damaged;
      later = t.later;
    }

abbrev pub with_split : Bool → Tests → Tests
with_split b t =
    record {
      sizes = t.sizes;
      code = t.code;
      foreign = t.foreign;
      place = t.place;
      split = b;
      prompt = t.prompt;
      damaged = t.damaged;
      later = t.later;
    }

abbrev pub with_prompt : Bool → Tests → Tests
with_prompt b t =
    record {
      sizes = t.sizes;
      code = t.code;
      foreign = t.foreign;
      place = t.place;
      split = t.split;
      prompt = b;
      damaged = t.damaged;
      later = t.later;
    }

abbrev pub with_damaged : Bool → Tests → Tests
with_damaged b t =
    record {
      sizes = t.sizes;
      code = t.code;
      foreign = t.foreign;
      place = t.place;
      split = t.split;
      prompt = t.prompt;
      damaged = b;
      later = t.later;
    }

abbrev pub with_later : ℕ → Tests → Tests
with_later k t =
    record {
      sizes = t.sizes;
      code = t.code;
      foreign = t.foreign;
      place = t.place;
      split = t.split;
      prompt = t.prompt;
      damaged = t.damaged;
      later = k;
    }

-- ---- the lowest number
-- the lower of two numbers, where 0 is none
abbrev pub lower : ℕ → ℕ → ℕ
lower zero b = b
lower (suc a) zero = suc a
lower (suc a) (suc b) = cond (ltb b a) (suc b) (suc a)

-- the tests of both
abbrev pub both : Tests → Tests → Tests
both a b =
    record {
      sizes = a.sizes || b.sizes;
      code = a.code || b.code;
      foreign = a.foreign || b.foreign;
      place = a.place || b.place;
      split = a.split || b.split;
      prompt = a.prompt || b.prompt;
      damaged = a.damaged || b.damaged;
      later = lower a.later b.later;
    }

-- the numbers of the orders begin with 13
abbrev pub later_number : ℕ → ℕ
later_number zero = 0
later_number (suc k) = suc (12 + k)

-- the lowest number whose test is met, 0 where none is
unfoldable pub refusal : Tests → ℕ
refusal t =
    cond t.sizes 2
    (cond t.code 3
    (cond t.foreign 4
    (cond t.place 5
    (cond t.split 6
    (cond t.prompt 7
    (cond t.damaged 8
    (later_number t.later)))))))

-- ---- of a lent text, and of a call's own arguments
-- the text that is lent: the used part of the buffer
abbrev pub lent_text : List ℕ → Line → List ℕ
lent_text buffer line = take line.len buffer

-- a lent text and its cursor: C over the most bytes of a text, a used length over C; not a text; the cursor beyond it or inside a character
abbrev pub line_tests : Repertoire → Format → List ℕ → Line → Tests
line_tests R F buffer line =
    with_sizes (ltb F.text (length buffer) || ltb (length buffer) line.len)
    (with_foreign (not (is_text R (lent_text buffer line)))
    (with_place (ltb line.len line.cursor)
    (with_split (not (boundary (lent_text buffer line) line.cursor))
    no_tests)))

-- a call's own tests: of its codes, of a character, of a place
abbrev pub own_tests : Bool → Bool → Bool → Tests
own_tests code foreign place = with_code code (with_foreign foreign (with_place place no_tests))

-- a text that is lent without a cursor, all of its buffer: more bytes than a text may have; not a text
abbrev pub text_tests : Repertoire → Format → List ℕ → Tests
text_tests R F text = with_sizes (ltb F.text (length text)) (with_foreign (not (is_text R text)) no_tests)
