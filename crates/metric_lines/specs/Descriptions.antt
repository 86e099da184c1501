-- Borrowed descriptions of streams.
use Rattle.metric_lines.specs.declared.description.Description.{Description}
use Rattle.metric_lines.specs.Batches.{DescribedStream}

-- what a description points to
abbrev pub described_by : Description → DescribedStream
described_by d = record {
  stream = d.stream.now;
  reader = d.reader.now;
  instrument = d.instrument.now;
  meter = d.meter.now;
}
