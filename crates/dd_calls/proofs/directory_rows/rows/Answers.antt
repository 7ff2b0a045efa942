-- The table is given whole, or it is wider than its room.
use Rattle.dd_calls.proofs.Growing.{one_not_zero}
use Rattle.dd_calls.proofs.directory_rows.rows.Goals as goal

pub returns-in-Ok-clause-given : goal.returns-in-Ok-clause-given
returns-in-Ok-clause-given c = λ done.
    record {
      table = c.in-Ok.table;
      is_table = c.in-Ok.ensures.table;
      fit_rows = c.give_table.ensures.fit_rows done;
      fit_ends = c.give_table.ensures.fit_ends done;
      fit_text = c.give_table.ensures.fit_text done;
      rows_are = c.give_table.ensures.rows done;
      ends_are = c.give_table.ensures.ends done;
      text_is = c.give_table.ensures.text done;
      size = c.give_table.ensures.size;
    }

pub returns-in-Ok-clause-longer : goal.returns-in-Ok-clause-longer
returns-in-Ok-clause-longer c = λ one.
    record {
      table = c.in-Ok.table;
      is_table = c.in-Ok.ensures.table;
      longer = c.give_table.ensures.room (one_not_zero c.give_table.result one);
      size = c.give_table.ensures.size;
    }
