-- What the history keeps of a transaction.
use Rattle.gem_record.specs.declared.record.TxnRecord.{TxnRecord}
use Rattle.gem_record.specs.declared.record.Entry.{Entry}

-- the entry of a transaction that was committed with this record: who ran which commands, on
-- which view and in which mode
abbrev pub entry_of : TxnRecord → Entry
entry_of transaction = record {
  session = transaction.session;
  transaction = transaction.transaction;
  user = transaction.user;
  first_command = transaction.first_command;
  last_command = transaction.last_command;
  first_name = transaction.first_name;
  view = transaction.view;
  mode = transaction.mode;
}
